use Rattle.std.proofs.Common.{IfErr, rules, subst}
use Rattle.ly_base.specs.Limits.{Sizes}
use Rattle.ly_generate.specs.Accepted.{IsRefusedFor, IsUnfitFor, Specifies}
use Rattle.ly_generate.specs.Parser.{IsParserOf}
use Rattle.ly_generate.proofs.GenFaultLemmas.{err_weaker, ok_weaker, unfit_refused}
use Rattle.ly_generate.proofs.parser.file_parser.Goals as goal

pub returns-in_err-given-clause-refused : goal.returns-in_err-given-clause-refused
returns-in_err-given-clause-refused c =
    subst (λ (l : Sizes). IfErr c.from_residual.result (IsRefusedFor l c.args.lex.now c.args.yacc.now))
    c.within-limits.ensures.least (search rules)

pub returns-clause-parser : goal.returns-clause-parser
returns-clause-parser c =
    let spec = c.in_ok-given.given.spec in
    let least = c.within-limits.ensures.least in
    ok_weaker c.specification_parser.result _ _
    (λ p is. (
      spec,
      subst (λ (l : Sizes). Specifies l c.args.lex.now c.args.yacc.now spec) least
          c.in_ok-given.ensures.says.specifies,
      subst (λ (l : Sizes). IsParserOf l spec c.args.report p) least is,
    ))
    c.specification_parser.ensures.parser

pub returns-clause-refused : goal.returns-clause-refused
returns-clause-refused c =
    let limits = c.within-limits.result in
    let spec = c.in_ok-given.given.spec in
    subst (λ (l : Sizes). IfErr c.specification_parser.result (IsRefusedFor l c.args.lex.now c.args.yacc.now))
    c.within-limits.ensures.least
    (err_weaker c.specification_parser.result (IsUnfitFor limits spec)
    (IsRefusedFor limits c.args.lex.now c.args.yacc.now)
    (unfit_refused limits c.args.lex.now c.args.yacc.now spec c.in_ok-given.ensures.says.specifies)
    c.specification_parser.ensures.unfit)
