-- The entries of states, and where these go, listed.
use Rattle.std.specs.Prelude.{◌≡◌, ℕ, ◌<◌, List, length, Some, Contains, slice_get}
use Rattle.ly_base.specs.declared.numbers.StateNo.{StateNo}
use Rattle.ly_pack.specs.Machine.{Machine, TableAction, entry_at, goto_at, states_of}
use Rattle.ly_pack.specs.Rows.{Counted}
use Rattle.ly_pack.specs.Values.{action_from}
use Rattle.ly_pack.specs.declared.action.TableAction as code
use Rattle.ly_pack.specs.declared.cell.Cell.{Cell}

-- The entries of a state, each with its terminal.
pub record AreEntries (m : Machine) (state : ℕ) (row : List (Cell code.TableAction)) : Type 0 where
  pub sound : (e : Cell code.TableAction) → Contains row e
      → (e.column < m.terminals) × (entry_at m state e.column ≡ Some (action_from e.entry))
  pub whole : (t : ℕ) (a : TableAction) → entry_at m state t ≡ Some a
      → (e : Cell code.TableAction) × Contains row e × (e.column ≡ t) × (action_from e.entry ≡ a)

-- The entries of all states.
pub record AreAllEntries (m : Machine) (rows : List (Counted code.TableAction)) : Type 0 where
  pub count : length rows ≡ states_of m
  pub each : (state : ℕ) (row : Counted code.TableAction) → slice_get rows state ≡ Some row
      → AreEntries m state row.value.items

-- Where a state goes, each with its nonterminal.
pub record AreGotos (m : Machine) (state : ℕ) (row : List (Cell StateNo)) : Type 0 where
  pub sound : (e : Cell StateNo) → Contains row e → goto_at m state e.column ≡ Some e.entry.0
  pub whole : (left next : ℕ) → goto_at m state left ≡ Some next
      → (e : Cell StateNo) × Contains row e × (e.entry.0 ≡ next)

-- Where all states go.
pub record AreAllGotos (m : Machine) (rows : List (Counted StateNo)) : Type 0 where
  pub count : length rows ≡ states_of m
  pub each : (state : ℕ) (row : Counted StateNo) → slice_get rows state ≡ Some row → AreGotos m state row.value.items
