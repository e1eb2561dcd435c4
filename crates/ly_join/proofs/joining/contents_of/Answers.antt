use Rattle.std.proofs.Common.{map, subst}
use Rattle.std.proofs.lemmas.Result.{err_from_is_err_and}
use Rattle.std.specs.List.{AllZip}
use Rattle.ly_yaccread.specs.File.{ruling_of, written_of}
use Rattle.ly_join.specs.Joined.{note_of}
use Rattle.ly_join.specs.Scanning.{acting_of, scanning_of, IsScanAction}
use Rattle.ly_join.specs.declared.limit.Limit.TheVariants.{Rules}
use Rattle.ly_join.specs.Private.Rules.{table_from, AreJoinedWithin, IsFaultOfActions, IsFaultOfRules}
use Rattle.ly_join.proofs.JoinLemmas.{actions_at_fault, all_covered, joined_from, ready, rules_at_fault, start_at_fault}
use Rattle.ly_join.proofs.joining.contents_of.Goals as goal

pub returns-in_err-start-clause-fault : goal.returns-in_err-start-clause-fault
returns-in_err-start-clause-fault c =
    let p = err_from_is_err_and c.from_residual.result c.from_residual.ensures.1 in
    rw (p.1, p.2) (start_at_fault (written_of c.args.yacc.now) (table_from c.args.table.now) c.requires.numbered
    c.args.limits.now (scanning_of c.args.lex.now) c.in_err-start.field-0.0 c.in_err-start.ensures.fault)

pub join_rules-requires : goal.join_rules-requires
join_rules-requires c =
    rw c.deref.ensures.value
    (all_covered (written_of c.args.yacc.now) (table_from c.args.table.now) c.requires.numbered)

pub returns-in_err-rules-clause-fault : goal.returns-in_err-rules-clause-fault
returns-in_err-rules-clause-fault c =
    let p = err_from_is_err_and c.from_residual-in_err-rules.result c.from_residual-in_err-rules.ensures.1 in
    rw (p.1, p.2) (rules_at_fault (written_of c.args.yacc.now) (table_from c.args.table.now) c.requires.numbered
    c.args.limits.now (scanning_of c.args.lex.now) c.in_err-rules.field-0.0
    (subst (λ rs. IsFaultOfRules (table_from c.args.table.now) (map ruling_of rs) c.in_err-rules.field-0.0)
    c.deref.ensures.value c.in_err-rules.ensures.fault))

pub returns-in_err-scanner-clause-fault : goal.returns-in_err-scanner-clause-fault
returns-in_err-scanner-clause-fault c =
    let p = err_from_is_err_and c.from_residual-in_err-scanner.result c.from_residual-in_err-scanner.ensures.1 in
    rw (p.1, p.2) (actions_at_fault (written_of c.args.yacc.now) (table_from c.args.table.now) c.requires.numbered
    c.args.limits.now (scanning_of c.args.lex.now) c.in_err-scanner.field-0.0
    (subst (λ as'. IsFaultOfActions c.args.table.now.terminals (map acting_of as') c.in_err-scanner.field-0.0)
    c.deref-2.ensures.value c.in_err-scanner.ensures.fault))

pub returns-clause-ready : goal.returns-clause-ready
returns-clause-ready c =
    let m = table_from c.args.table.now in
    let rules = c.in_ok-rules.rules.items in
    let notes = map note_of c.in_ok-rules.notes.items in
    let kept : AreJoinedWithin c.args.limits.now.yacc_rules m (written_of c.args.yacc.now).rules rules notes
    = subst (λ n. AreJoinedWithin n m (written_of c.args.yacc.now).rules rules notes) c.yacc_rules.ensures
    (subst (λ rs. AreJoinedWithin c.yacc_rules.result m (map ruling_of rs) rules notes) c.deref.ensures.value
    c.in_ok-rules.ensures.ok) in
    ready (written_of c.args.yacc.now) m c.requires.numbered c.in_ok-start.start.0 rules notes c.in_ok-start.ensures.ok
    (kept (c.in_ok-check_limits.ensures Rules))

pub returns-clause-ok : goal.returns-clause-ok
returns-clause-ok c =
    let m = table_from c.args.table.now in
    let rules = c.in_ok-rules.rules.items in
    let notes = map note_of c.in_ok-rules.notes.items in
    let kept : AreJoinedWithin c.args.limits.now.yacc_rules m (written_of c.args.yacc.now).rules rules notes
    = subst (λ n. AreJoinedWithin n m (written_of c.args.yacc.now).rules rules notes) c.yacc_rules.ensures
    (subst (λ rs. AreJoinedWithin c.yacc_rules.result m (map ruling_of rs) rules notes) c.deref.ensures.value
    c.in_ok-rules.ensures.ok) in
    joined_from (written_of c.args.yacc.now) m c.requires.numbered (scanning_of c.args.lex.now)
    c.in_ok-start.start.0 rules notes c.in_ok-scanner.scanner.items c.in_ok-start.ensures.ok
    (kept (c.in_ok-check_limits.ensures Rules))
    (subst (λ as'. AllZip (IsScanAction c.args.table.now.terminals) (map acting_of as') c.in_ok-scanner.scanner.items)
    c.deref-2.ensures.value c.in_ok-scanner.ensures.ok)
