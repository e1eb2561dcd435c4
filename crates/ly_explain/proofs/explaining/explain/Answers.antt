use Rattle.std.proofs.Common.{subst}
use Rattle.ly_base.specs.Limits.{Sizes}
use Rattle.ly_explain.specs.Explained.{IsExplained}
use Rattle.ly_explain.proofs.explaining.explain.Goals as goal

pub returns-in-Ok-clause-explained : goal.returns-in-Ok-clause-explained
returns-in-Ok-clause-explained c = subst
    (λ (sizes : Sizes). IsExplained sizes c.args.lex.bytes.now c.args.yacc.bytes.now c.in-Ok.explanation)
    c.within-limits.ensures.least c.in-Ok.ensures.formed
