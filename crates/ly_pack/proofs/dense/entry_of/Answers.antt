use Rattle.std.proofs.Common.{◌∙◌, Some, ap, sym}
use Rattle.std.proofs.lemmas.Bool.{true≢false}
use Rattle.std.proofs.lemmas.Option.{get_or_from_slice_get}
use Rattle.ly_pack.specs.declared.cell.Cell.{Cell}
use Rattle.ly_pack.proofs.CellLemmas.{entry_in-at, entry_in-not_at}
use Rattle.ly_pack.proofs.dense.entry_of.Goals as goal

pub returns-then-is_at : goal.returns-then-is_at
returns-then-is_at g c =
    let found = c.is_at.ensures.0 c.if-is_at.true in
    let place = c.place_of-place.result in
    ap (λ (x : Cell g.row.E.Denot). Some x.entry)
    (get_or_from_slice_get c.args.cells.now place found.0 c.index-cells-place.result found.1)
    ∙ sym (entry_in-at c.args.cells.now c.args.column place c.requires c.place_of-place.ensures.within
    c.place_of-place.ensures.parted found.0 found.1 found.2)

pub returns-else-is_at : goal.returns-else-is_at
returns-else-is_at g c = sym (entry_in-not_at c.args.cells.now c.args.column c.place_of-place.result c.requires
    c.place_of-place.ensures.within c.place_of-place.ensures.parted (λ x at same.
    true≢false (sym (c.is_at.ensures.1 (x, at, same)) ∙ c.if-is_at.false)))
