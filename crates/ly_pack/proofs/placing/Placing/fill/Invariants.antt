use Rattle.ly_pack.specs.Private.Order.{columns_of}
use Rattle.ly_pack.specs.Private.Placing.{AreTied}
use Rattle.ly_pack.specs.Rows.{dense_entry}
use Rattle.ly_pack.proofs.PlacingLemmas.{IsPartFilled}
use Rattle.ly_pack.proofs.placing.Placing.fill.Given as goal

abbrev pub invariant-loop-cell : goal.invariant-loop-cell
invariant-loop-cell g l = record {
  part : IsPartFilled (dense_entry l.dense) l.row.0 l.base (columns_of (dense_entry l.dense) l.dense.width l.row.0)
      l.cell-index l.initial.self.slots.items l.self.slots.items;
  tied : AreTied l.self.used.words.items l.self.slots.items;
}
