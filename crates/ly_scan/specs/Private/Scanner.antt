-- A scanner in memory.
use Rattle.std.specs.Prelude.{◌≡◌, ℕ, Bool, Option, IfSome, false, option_map}
use Rattle.std.specs.Bool.{OnTrue}
use Rattle.ly_base.specs.declared.cut.Cut.TheVariants.{Whole}
use Rattle.ly_scan.specs.StateRows.{state_at, Begins}
use Rattle.ly_scan.specs.StateTable.{LeadsWithin, StateTable, cut_at, start_at, states_of}
use Rattle.ly_scan.specs.StateWalk.{MindsNoLine}
use Rattle.ly_scan.specs.declared.state_rows.RowStart.{RowStart}

-- What is looked up once is so: where the initial condition begins elsewhere than at the start of a line, whether
-- lines matter, and whether no rule has a cut.
pub record IsKnown (t : StateTable) (initial : Option RowStart) (lines uncut : Bool) : Type 0 where
  pub within : LeadsWithin t
  pub begun : option_map state_at initial ≡ start_at t 0 false
  pub begins : IfSome initial Begins
  pub alike : lines ≡ false → MindsNoLine (states_of t)
  pub whole : OnTrue uncut ((rule : ℕ) → cut_at t rule ≡ Whole)
