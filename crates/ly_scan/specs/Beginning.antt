-- The starts of walks in the initial condition.
use Rattle.std.specs.Prelude.{◌≡◌, ℕ, List, Bool, if◌then◌else◌}
use Rattle.ly_scan.specs.StateTable.{StandsIn, StateTable, ahead_at, states_of}
use Rattle.ly_scan.specs.StateWalk.{state_walk}
use Rattle.ly_scan.specs.declared.beginning.Anywhere.{Anywhere}
use Rattle.ly_scan.specs.declared.beginning.ByLine.{ByLine}
use Rattle.ly_scan.specs.declared.state_rows.RowStart.{RowStart}

abbrev pub anywhere : Anywhere → Bool → RowStart
anywhere b line = b.start

abbrev pub by_line : ByLine → Bool → RowStart
by_line b line = if line then b.at_line else b.elsewhere

-- Walks of the initial condition begin at these starts, at the start of a line or not.
pub record IsBegun (t : StateTable) (begun : Bool → RowStart) : Type 0 where
  pub stands : (line : Bool) → StandsIn t (begun line)
  pub there : (line : Bool) (text : List ℕ) → ahead_at t (begun line) text ≡ state_walk (states_of t) 0 line text
