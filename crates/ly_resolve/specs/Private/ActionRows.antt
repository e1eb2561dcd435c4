-- Rows of states, which stand in one list; equal ones of states in turn are kept once.
use Rattle.std.specs.Prelude.{◌≤◌, ℕ, List, map, slice_range}
use Rattle.ly_resolve.specs.Resolved.{TerminalAction}
use Rattle.ly_resolve.specs.Values.{terminal_action_from}
use Rattle.ly_resolve.specs.declared.action.TerminalAction as entry
use Rattle.ly_resolve.specs.declared.action_rows.RowPlace.{RowPlace}

-- the place is within so many entries
pub record IsWithin (count : ℕ) (p : RowPlace) : Type 0 where
  pub ordered : p.start ≤ p.end
  pub within : p.end ≤ count

-- the row at a place
abbrev pub row_at : List entry.TerminalAction → RowPlace → List TerminalAction
row_at kept p = map terminal_action_from (slice_range kept p.start p.end)

-- the rows, by the places where they stand
abbrev pub rows_from : List RowPlace → List entry.TerminalAction → List (List TerminalAction)
rows_from places kept = map (row_at kept) places
