use Rattle.std.proofs.Common.{◌≡◌, ◌<◌, ◌-◌, ◌⊎◌, inl, inr, ℕ, All, arith, length, slice_index_or, subst, sym}
use Rattle.std.proofs.Common.{List}
use Rattle.std.proofs.lemmas.Bool.{cases_order, lt-ltb, ltb-true}
use Rattle.std.proofs.lemmas.List.{get_or_default}
use Rattle.ly_pack.specs.Rows.{AreRising}
use Rattle.ly_pack.specs.declared.cell.Cell.{Cell}
use Rattle.ly_pack.proofs.dense.are_before.Goals as goal

-- those that rise are all below what the last one is below
all_below : {E : Type 0} (cells : List (Cell E)) (column : ℕ) (d : Cell E) → AreRising cells
    → (slice_index_or cells (length cells - 1) d).column < column → All (λ c. c.column < column) cells
all_below {E} cells column d rising last k e lt = at (cases_order k (length cells - 1)) where
  ends : (slice_index_or cells (length cells - 1) e).column < column
  ends = subst (λ c. c.column < column)
      (get_or_default cells (length cells - 1) d e (omega (arith, lt))) last

  at : (k ≡ length cells - 1) ⊎ ((k < length cells - 1) ⊎ (length cells - 1 < k))
      → (slice_index_or cells k e).column < column
  at (inl same) = subst (λ j. (slice_index_or cells j e).column < column) (sym same) ends
  at (inr (inl before)) =
      let less = rising k (length cells - 1) e before (omega (arith, lt)) in
      omega (arith, less, ends)
  at (inr (inr past)) = absurd (omega (arith, lt, past))

pub returns-in_default : goal.returns-in_default
returns-in_default g c =
    let cells = c.args.cells.now in
    let column = c.args.column in
    let last = slice_index_or cells (length cells - 1) c.index-cells-count.result in
    let some = c.in_default in (
      λ is. all_below cells column c.index-cells-count.result c.requires (ltb-true last.column column is),
      λ all. lt-ltb last.column column (all (length cells - 1) c.index-cells-count.result (omega (arith, some))),
    )
