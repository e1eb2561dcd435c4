use Rattle.std.proofs.Common.{◌≡◌, ◌∙◌, ap, arith, false, length, map, slice_index_or, sym, true}
use Rattle.std.proofs.lemmas.Bool.{eq-eqb, eqb-true}
use Rattle.std.proofs.lemmas.List.{length-map}
use Rattle.std.proofs.lemmas.Simd.{length-replicate}
use Rattle.std.proofs.Math.ListN.{length-set}
use Rattle.std.specs.FinSet as set
use Rattle.ly_sets.specs.SetMatrix.{row}
use Rattle.ly_relate.specs.Values.{goto_from}
use Rattle.ly_lookahead.proofs.DirectLemmas.{direct_all, direct_more, direct_none, end_came, end_stays, no_goto}
use Rattle.ly_lookahead.proofs.DirectLemmas.{shift_below, target_within}
use Rattle.ly_lookahead.proofs.SetLemmas.{shown_at}
use Rattle.ly_lookahead.proofs.direct.direct_sets.Goals as goal
use Rattle.ly_lookahead.proofs.direct.direct_sets.Goals.{else-eq, else-eq-via-else-eq, else-eq-via-then-eq+else-eq-2}
use Rattle.ly_lookahead.proofs.direct.direct_sets.Goals.{then-eq+then-eq-2+in_ok-insert}

pub loop-number-init : goal.loop-number-init
loop-number-init c = record {
  long = ap (λ m. length m.sets) c.in_ok-sets.ensures ∙ length-replicate c.args.rows set.empty;
  width = ap (λ m. m.width) c.in_ok-sets.ensures
      ∙ (c.terminals.ensures ∙ sym c.grammar-grammar.ensures.keeps.terminals ∙ ap (λ g. g.terminals) c.reduced.ensures);
  start = c.start-start.ensures.value ∙ sym c.grammar-grammar.ensures.keeps.start ∙ ap (λ g. g.start) c.reduced.ensures;
  direct = direct_none c.args.lr0.now (map goto_from c.args.gotos.now) c.args.rows c.in_ok-sets.sets.sets
      (ap (λ m. m.sets) c.in_ok-sets.ensures);
}

pub insert_row-requires-clause-state : goal.insert_row-requires-clause-state
insert_row-requires-clause-state c =
    let items = c.args.gotos.now in
    let k = c.loop-number.number in
    target_within c.args.lr0.now c.requires.lawful (map goto_from items) c.requires.gotos k
    (goto_from (slice_index_or items k no_goto)) (shown_at goto_from no_goto items k c.loop-number-test.true)

pub insert_row-requires-clause-row : goal.insert_row-requires-clause-row
insert_row-requires-clause-row c =
    let lt = c.loop-number-test.true in
    let room = c.requires.room in
    let long = c.loop-number.invariant.long in
    omega (arith, lt, room, long)

pub insert_row-requires-clause-below : goal.insert_row-requires-clause-below
insert_row-requires-clause-below c t r has =
    let items = c.args.gotos.now in
    let k = c.loop-number.number in
    let x = goto_from (slice_index_or items k no_goto) in
    let in_state = target_within c.args.lr0.now c.requires.lawful (map goto_from items) c.requires.gotos k x
    (shown_at goto_from no_goto items k c.loop-number-test.true) in
    let lt = shift_below c.args.lr0.now c.requires.lawful x.target t r in_state has in
    let width = c.loop-number.invariant.width in
    omega (arith, lt, width)

pub insert-requires-clause-row : goal.insert-requires-clause-row
insert-requires-clause-row c =
    let lt = c.loop-number-test.true in
    let room = c.requires.room in
    let long = c.loop-number.invariant.long in
    let same = c.in_ok-insert_row.ensures.rows in
    omega (arith, lt, room, long, same)

pub insert-requires-clause-below : goal.insert-requires-clause-below
insert-requires-clause-below c =
    let some = c.requires.lawful.augmented.end_within in
    let width = c.loop-number.invariant.width in
    let same = c.in_ok-insert_row.ensures.width in
    omega (arith, some, width, same)

pub loop-number-preserved : goal.loop-number-preserved
loop-number-preserved c =
    let M = c.args.lr0.now in
    let items = c.args.gotos.now in
    let k = c.loop-number.number in
    let x = goto_from (slice_index_or items k no_goto) in
    let inv = c.loop-number.invariant in
    let old = c.loop-number.sets.sets in
    let now = c.insert_row.new.sets.sets in
    let new = c.if-eq.sets.sets in
    let at = shown_at goto_from no_goto items k c.loop-number-test.true in
    let one = direct_more M c.requires.lawful x (c.requires.gotos.are k x at) (map goto_from items) k old now new at
    inv.direct c.in_ok-insert_row.ensures.inserted in
    let lt = c.loop-number-test.true in
    let room = c.requires.room in
    let long = inv.long in
    let same = c.in_ok-insert_row.ensures.rows in
    elim c.if-eq.branch [
      | then-eq+then-eq-2+in_ok-insert w ↦
          let is = ap (λ m. m.sets) (w.sets-is ∙ w.in_ok-insert.ensures.ok) in
          record {
            long = ap length is ∙ (length-set now k (set.insert (row now k) 0) ∙ same ∙ long);
            width = ap (λ m. m.width) (w.sets-is ∙ w.in_ok-insert.ensures.ok) ∙ c.in_ok-insert_row.ensures.width
                ∙ inv.width;
            start = inv.start;
            direct = one (end_came M x k now new (omega (arith, lt, room, long, same)) is
                (eqb-true x.from 0 (sym c.eq.ensures ∙ w.if-eq.true))
                (eqb-true x.symbol c.start-start.result.0 (sym w.eq-then-eq.ensures ∙ w.if-eq-2.true) ∙ inv.start));
          }
      | else-eq w ↦
          let is = ap (λ m. m.sets) w.sets-is in
          record {
            long = ap length is ∙ same ∙ long;
            width = ap (λ m. m.width) w.sets-is ∙ c.in_ok-insert_row.ensures.width ∙ inv.width;
            start = inv.start;
            direct = one (end_stays M x k now new is (elim w.else-eq.branch [
              | else-eq-via-then-eq+else-eq-2 v ↦ λ from symbol.
                  let both : true ≡ false = sym (eq-eqb x.symbol c.start-start.result.0 (symbol ∙ sym inv.start))
                  ∙ (sym v.eq-then-eq.ensures ∙ v.if-eq-2.false) in
                  cc
              | else-eq-via-else-eq v ↦ λ from symbol.
                  (let both : true ≡ false = sym (eq-eqb x.from 0 from) ∙ (sym c.eq.ensures ∙ v.if-eq.false) in cc)
            ]));
          }
    ]

pub returns-clause-rows : goal.returns-clause-rows
returns-clause-rows c = c.loop-number.invariant.long

pub returns-clause-direct : goal.returns-clause-direct
returns-clause-direct c =
    let items = c.args.gotos.now in
    let past = c.loop-number-test.false in
    let count = length-map items goto_from in
    direct_all c.args.lr0.now (map goto_from items) c.loop-number.number c.loop-number.sets.sets
    (omega (arith, past, count)) c.loop-number.invariant.direct
