-- What a change of one column leaves of cells.
use Rattle.std.specs.Prelude.{ℕ, ◌<◌, List, All}
use Rattle.ly_pack.specs.Rows.{AreRising}
use Rattle.ly_pack.specs.declared.cell.Cell.{Cell}

-- Columns that rise still do, and are still below a width that the changed one is below.
pub record AreCellsStill {E : Type 0} (column : ℕ) (old new : List (Cell E)) : Type 0 where
  pub rising : AreRising old → AreRising new
  pub within : (width : ℕ) → column < width → All (λ c. c.column < width) old → All (λ c. c.column < width) new
