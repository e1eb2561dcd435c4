use Rattle.std.proofs.lemmas.Result.{err_from_is_err_and, IfErr-weaker}
use Rattle.ly_yaccread.specs.File.{written_of}
use Rattle.ly_join.specs.Faults.{IsAtFault}
use Rattle.ly_join.specs.Scanning.{scanning_of}
use Rattle.ly_join.proofs.JoinLemmas.{giving_at_fault, not_at_fault, not_within}
use Rattle.ly_join.proofs.joining.join.Goals as goal

pub returns-in_err-table-clause-refused : goal.returns-in_err-table-clause-refused
returns-in_err-table-clause-refused c =
    let p = err_from_is_err_and c.from_residual.result c.from_residual.ensures.1 in
    rw (p.1, p.2) (λ some s joined. not_within (scanning_of c.args.lex.now) (written_of c.args.yacc.now) s joined
    c.args.limits.now c.in_err-table.field-0.0 (giving_at_fault c.args.limits.now (scanning_of c.args.lex.now)
    (written_of c.args.yacc.now) c.in_err-table.field-0.0 c.in_err-table.ensures.fault) some)

pub returns-in_err-table-clause-none : goal.returns-in_err-table-clause-none
returns-in_err-table-clause-none c =
    let p = err_from_is_err_and c.from_residual.result c.from_residual.ensures.1 in
    rw (p.1, p.2) (λ of s joined. not_at_fault (scanning_of c.args.lex.now) (written_of c.args.yacc.now) s joined
    c.args.limits.now c.in_err-table.field-0.0 (giving_at_fault c.args.limits.now (scanning_of c.args.lex.now)
    (written_of c.args.yacc.now) c.in_err-table.field-0.0 c.in_err-table.ensures.fault) of)

pub returns-clause-refused : goal.returns-clause-refused
returns-clause-refused c =
    IfErr-weaker c.specify.result
    (IsAtFault c.args.limits.now (scanning_of c.args.lex.now) (written_of c.args.yacc.now)) _
    (λ f h some s joined. not_within (scanning_of c.args.lex.now) (written_of c.args.yacc.now) s joined
    c.args.limits.now f h some) c.specify.ensures.fault

pub returns-clause-none : goal.returns-clause-none
returns-clause-none c =
    IfErr-weaker c.specify.result
    (IsAtFault c.args.limits.now (scanning_of c.args.lex.now) (written_of c.args.yacc.now)) _
    (λ f h of s joined. not_at_fault (scanning_of c.args.lex.now) (written_of c.args.yacc.now) s joined
    c.args.limits.now f h of) c.specify.ensures.fault
