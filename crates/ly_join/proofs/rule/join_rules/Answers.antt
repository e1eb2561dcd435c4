use Rattle.std.proofs.Common.{◌∙◌, ap, arith, inr, map, take}
use Rattle.std.proofs.lemmas.List.{map_push}
use Rattle.std.proofs.lemmas.Result.{err_from_is_err_and}
use Rattle.ly_yaccread.specs.File.{ruling_of}
use Rattle.ly_join.specs.Joined.{note_of}
use Rattle.ly_join.specs.Private.Rules.{table_from}
use Rattle.ly_join.proofs.ListLemmas.{mapped_in, mapped_more, read_in}
use Rattle.ly_join.proofs.RuleLemmas.{covered_one, within_full, within_more}
use Rattle.ly_join.proofs.rule.join_rules.Goals as goal
use Rattle.ly_join.proofs.rule.join_rules.Goals.{then-len-most+in_ok-push-2+in_ok-push-3, else-len-most}

pub join_rule-requires : goal.join_rule-requires
join_rule-requires c = record {
  covered = covered_one (table_from c.args.table.now) (map ruling_of c.args.productions.now)
      (ruling_of c.production-item.result) c.requires (mapped_in ruling_of c.args.productions.now
      c.production-item.result (read_in c.args.productions.now c.loop-production.production-index
      c.production-item.result c.loop-production-test.true c.production-item.is));
  last = c.loop-production.invariant.last;
}

pub returns-in_err-rule-clause-fault : goal.returns-in_err-rule-clause-fault
returns-in_err-rule-clause-fault c =
    let p = err_from_is_err_and c.from_residual-in_err-rule.result c.from_residual-in_err-rule.ensures.1 in
    rw (p.1, p.2) (inr (
      ruling_of c.production-item.result,
      mapped_in ruling_of c.args.productions.now
          c.production-item.result (read_in c.args.productions.now c.loop-production.production-index
          c.production-item.result c.loop-production-test.true c.production-item.is),
      c.in_err-rule.ensures.fault,
    ))

pub loop-production-preserved : goal.loop-production-preserved
loop-production-preserved c =
    let m = table_from c.args.table.now in
    let at = c.loop-production.production-index in
    let before = take at (map ruling_of c.args.productions.now) in
    let ruling = ruling_of c.production-item.result in
    let rules = c.loop-production.rules.items in
    let notes = c.loop-production.notes.items in
    let rule = c.in_ok-rule.rule in
    let note = c.in_ok-rule.note in
    let more = mapped_more ruling_of c.args.productions.now at c.production-item.result c.loop-production-test.true
    c.production-item.is in
    let side = c.in_ok-rule.ensures in
    elim c.if-len-most.branch [
      | then-len-most+in_ok-push-2+in_ok-push-3 w ↦ record {
        joined = rw (
          more,
          ap (λ v. v.items) w.rules-is ∙ w.in_ok-push-2.ensures.items,
          ap (λ v. map note_of v.items) w.notes-is
              ∙ (ap (map note_of) w.in_ok-push-3.ensures.items ∙ map_push note_of notes note),
        )
            (within_more c.args.most m before rules (map note_of notes) ruling rule (note_of note)
            c.loop-production.invariant.joined c.in_ok-rule.ensures.ok c.in_ok-rule.ensures.apart);
        last = rw (c.deref.ensures.value, c.left.ensures) (side.ok.left, side.apart);
      }
      | else-len-most w ↦ record {
        joined = rw (
          more,
          ap (λ v. v.items) w.rules-is,
          ap (λ v. map note_of v.items) w.notes-is,
        )
            (within_full c.args.most m before rules (map note_of notes) ruling c.loop-production.invariant.joined
            (omega (arith, w.if-len-most.false, c.len.ensures, c.loop-production.rules.ok.0)));
        last = rw (c.deref.ensures.value, c.left.ensures) (side.ok.left, side.apart);
      }
    ]
