use Rattle.std.proofs.Common.{◌≡◌, ◌∙◌, ap, replicate, sym, subst, arith, length, get_or}
use Rattle.std.proofs.lemmas.Option.{slice_get-get_or}
use Rattle.ly_pack.specs.Private.Bits.{IsTakenAt}
use Rattle.ly_pack.specs.Private.Order.{IsOrder}
use Rattle.ly_pack.specs.Private.Placing.{AreLaid, flag, slot_at, table_of}
use Rattle.ly_pack.proofs.PlacingLemmas.{laid_more, laid_none, still_refused, still_taken}
use Rattle.ly_pack.proofs.placing.place_rows.Goals as goal

pub loop-row-init : goal.loop-row-init
loop-row-init g c = record {
  laid = laid_none (table_of c.args.dense.now) c.deref-row-items.result.now c.in_ok-bases.bases.items c.new.result.items
      (c.in_ok-bases.ensures.items_if_clones_equal (λ y e. e) ∙ ap (λ n. replicate n 0) c.rows.ensures)
      c.new.ensures.items;
  tied = λ k. c.new-2.ensures k ∙ ap (λ s. flag (slot_at s k)) (sym c.new.ensures.items);
  refused = c.new-earlier.ensures _;
}

pub columns_of_row-requires : goal.columns_of_row-requires
columns_of_row-requires g c =
    let order = c.deref-row-items.result.now in
    let ordered = subst (IsOrder (table_of c.args.dense.now)) (sym c.deref-row-items.ensures.value)
    c.in_ok-order.ensures in
    ordered.within c.loop-row.row-index (get_or order c.loop-row.row-index 0)
    (slice_get-get_or order c.loop-row.row-index 0 (omega arith))

pub place-requires-clause-row : goal.place-requires-clause-row
place-requires-clause-row g c =
    let order = c.deref-row-items.result.now in
    let ordered = subst (IsOrder (table_of c.args.dense.now)) (sym c.deref-row-items.ensures.value)
    c.in_ok-order.ensures in
    ordered.within c.loop-row.row-index (get_or order c.loop-row.row-index 0)
    (slice_get-get_or order c.loop-row.row-index 0 (omega arith))

pub place-requires-clause-refused : goal.place-requires-clause-refused
place-requires-clause-refused g c lower lt =
    subst (λ cs. IsTakenAt c.loop-row.placing.used.words.items cs lower)
    (c.deref.ensures.value ∙ sym c.deref-in-loop-row.ensures.value)
    (c.base-refused.ensures c.loop-row.placing.used.words.items c.loop-row.invariant.refused lower lt)

pub index_mut-requires : goal.index_mut-requires
index_mut-requires g c =
    let order = c.deref-row-items.result.now in
    let ordered = subst (IsOrder (table_of c.args.dense.now)) (sym c.deref-row-items.ensures.value)
    c.in_ok-order.ensures in
    let within = ordered.within c.loop-row.row-index (get_or order c.loop-row.row-index 0)
    (slice_get-get_or order c.loop-row.row-index 0 (omega arith)) in
    omega (arith, c.loop-row.invariant.laid.long, c.loop-row.bases.ok.0)

pub loop-row-preserved : goal.loop-row-preserved
loop-row-preserved g c =
    let order = c.deref-row-items.result.now in
    let ordered = subst (IsOrder (table_of c.args.dense.now)) (sym c.deref-row-items.ensures.value)
    c.in_ok-order.ensures in
    record {
      laid = laid_more (table_of c.args.dense.now) order ordered c.loop-row.row-index
          (get_or order c.loop-row.row-index 0) (slice_get-get_or order c.loop-row.row-index 0 (omega arith))
          c.loop-row.bases.items c.loop-row.placing.slots.items c.place.new.self.slots.items c.in_ok-base.base
          c.loop-row.invariant.laid c.in_ok-base.ensures.placed;
      tied = c.in_ok-base.ensures.tied;
      refused =
          let before = c.loop-row.placing.used.words.items in
          let after = c.place.new.self.used.words.items in
          c.in_ok-insert.ensures after (still_refused before after c.loop-row.earlier.bases.entries
          c.in_ok-base.ensures.still c.loop-row.invariant.refused) (λ lower lt.
          still_taken before after c.in_ok-columns.columns.items lower c.in_ok-base.ensures.still
          (subst (λ cs. IsTakenAt before cs lower) c.deref-in-loop-row.ensures.value
          (c.in_ok-base.ensures.refused lower lt)));
    }

pub returns : goal.returns
returns g c =
    let order = c.deref-row-items.result.now in
    let all : c.loop-row.row-index ≡ length order = omega arith in
    record {
      order = order;
      ordered = subst (IsOrder (table_of c.args.dense.now)) (sym c.deref-row-items.ensures.value) c.in_ok-order.ensures;
      laid = subst (λ n. AreLaid (table_of c.args.dense.now) order n c.loop-row.bases.items
          c.loop-row.placing.slots.items) all c.loop-row.invariant.laid;
    }
