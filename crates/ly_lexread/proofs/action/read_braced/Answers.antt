use Rattle.std.proofs.Common.{subst}
use Rattle.ly_lexread.specs.Action.{effect_of, no_effect}
use Rattle.ly_lexread.specs.Statements.{LineEnds}
use Rattle.ly_lexread.specs.declared.statement.Extent.TheVariants.{Braces}
use Rattle.ly_lexread.proofs.StatementLemmas.{statements_one}
use Rattle.ly_lexread.proofs.action.read_braced.Goals as goal

pub returns-in-None-clause-refused : goal.returns-in-None-clause-refused
returns-in-None-clause-refused c = λ _ e behind rest h k.
    let same = (statements_one c.args.conditions.now Braces no_effect e (effect_of c.in-Ok.read.0) c.args.text.bytes.now
    behind c.in-Ok.read.1.now h c.in-Ok.ensures.ok).1 in
    c.in-None.ensures rest (subst (λ i. LineEnds i rest) same k)
