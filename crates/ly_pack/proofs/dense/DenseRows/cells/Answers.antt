use Rattle.std.proofs.Common.{sym, subst}
use Rattle.ly_pack.specs.Rows.{AreAllCellsOf, dense_entry}
use Rattle.ly_pack.proofs.DenseLemmas.{all_cells}
use Rattle.ly_pack.proofs.dense.DenseRows.cells.Goals as goal

pub returns : goal.returns
returns g c =
    let d = c.args.self.now in
    subst (AreAllCellsOf (dense_entry d) d.rows d.width) (sym c.deref.ensures.value)
    (all_cells c.self.inside.width c.self.inside.lists.items d c.self.view_is c.self.invariant)
