use Rattle.std.proofs.Common.{◌≡◌, ◌∙◌, ◌+◌, Some, ap, arith, get_or, inl, inr, length, refl, subst, sym}
use Rattle.std.proofs.lemmas.List.{length-map}
use Rattle.ly_pack.specs.Private.Order.{columns_of}
use Rattle.ly_pack.specs.Private.Placing.{slot_at, table_of}
use Rattle.ly_pack.specs.Rows.{dense_entry}
use Rattle.ly_pack.specs.declared.cell.Cell.{Cell}
use Rattle.ly_pack.proofs.OrderLemmas.{column_listed, columns_listed}
use Rattle.ly_pack.proofs.PlacingLemmas.{IsPartFilled, filled_all, part_more}
use Rattle.ly_pack.proofs.placing.Placing.fill.Goals as goal

pub loop-cell-preserved : goal.loop-cell-preserved
loop-cell-preserved g c =
    let d = c.args.dense.now in
    let row = c.args.row.0 in
    let base = c.args.base in
    let columns = columns_of (dense_entry d) d.width row in
    let these = c.row-cell-items.ensures.these in
    let k = c.loop-cell.cell-index in
    let lt = c.loop-cell-test.true in
    let x = c.cell-item.result in
    let at : get_or columns k 0 ≡ x.column = column_listed (dense_entry d) d.width row c.row-cell-items.result.now these
    c.row-cell-items.ensures.within k x lt c.cell-item.is in
    let is : dense_entry d row x.column ≡ Some x.entry = these.sound x (k, lt, sym c.cell-item.is) in
    let there : base + x.column ≡ base + get_or columns k 0 = ap (λ n. base + n) (sym at) in
    let new = c.take.new.self.slots.items in
    record {
      part = part_more (dense_entry d) row base columns k c.args.self.now.slots.items c.loop-cell.self.slots.items
          c.loop-cell.invariant.part new x.entry (ap (dense_entry d row) at ∙ is)
          (ap (slot_at new) (sym there) ∙ c.in_ok-take.ensures.same)
          (λ j miss. c.in_ok-take.ensures.others j (λ e. miss (e ∙ there))) c.in_ok-take.ensures.grows
          (λ j last. elim (c.in_ok-take.ensures.short j last) [
            | inl here ↦ inl (here ∙ there)
            | inr was ↦ inr was
          ]);
      tied = c.in_ok-take.ensures.tied;
    }

pub returns-clause-filled : goal.returns-clause-filled
returns-clause-filled g c =
    let d = c.args.dense.now in
    let row = c.args.row.0 in
    let cells = c.row-cell-items.result.now in
    let columns = columns_of (dense_entry d) d.width row in
    let all : c.loop-cell.cell-index ≡ length columns = omega (
      arith,
      ap length (columns_listed (dense_entry d) d.width row cells c.row-cell-items.ensures.these
          c.row-cell-items.ensures.within),
      length-map cells (λ (x : Cell g.row.E.Denot). x.column),
    ) in
    filled_all (table_of d) row c.args.base columns c.args.self.now.slots.items c.loop-cell.self.slots.items refl
    (subst (λ n. IsPartFilled (dense_entry d) row c.args.base columns n c.args.self.now.slots.items
    c.loop-cell.self.slots.items) all c.loop-cell.invariant.part)
