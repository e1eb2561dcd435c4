-- By which rules the entries of rows reduce.
use Rattle.std.specs.Prelude.{◌≡◌, ◌<◌, ℕ, List, Some, length, slice_get, Contains}
use Rattle.ly_resolve.specs.Actions.{reduce}
use Rattle.ly_resolve.specs.Resolved.{TerminalAction, Resolved}
use Rattle.ly_resolve.specs.declared.action.Action.TheVariants.{Reduce}
use Rattle.ly_resolve.specs.declared.action.TerminalAction as code

-- the entry at the place reduces by the rule
abbrev pub ReducesAt : List code.TerminalAction → ℕ → ℕ → Type 0
ReducesAt row k p = (x : code.TerminalAction) × (slice_get row k ≡ Some x) × (x.action ≡ Reduce (record { 0 = p }))

-- an entry does
abbrev pub ReducesIn : List code.TerminalAction → ℕ → Type 0
ReducesIn row p = (k : ℕ) × (k < length row) × ReducesAt row k p

-- an entry of the row of the state does
abbrev pub StateReduces : Resolved → ℕ → ℕ → Type 0
StateReduces r s p = (row : List TerminalAction) × (slice_get r.rows s ≡ Some row) × (t : ℕ)
    × Contains row (record { terminal = t; action = reduce p })
