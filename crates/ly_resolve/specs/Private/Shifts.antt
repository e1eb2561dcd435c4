-- The shifts of a state, one by one.
use Rattle.std.specs.Prelude.{◌≡◌, ◌↔◌, ◌⊎◌, ℕ, ◌<◌, List, Some, filter, slice_get, AllPairs, Contains}
use Rattle.ly_join.specs.Grammar.{terminal}
use Rattle.ly_lr0.specs.Automaton.{Lr0Automaton, is_shift, prefix_of, state_at}
use Rattle.ly_resolve.specs.Actions.{IsRaw, shift}
use Rattle.ly_resolve.specs.Resolved.{TerminalAction}

-- a terminal is the end, which is shifted, or one of the first i shifts of state s is over it
abbrev pub IsShiftedTo : Lr0Automaton → ℕ → ℕ → ℕ → Type 0
IsShiftedTo M s i t = ((t ≡ 0) × IsRaw M.grammar (prefix_of M s) 0 shift) ⊎ ((k : ℕ) × (r : ℕ) × (k < i)
    × (slice_get (filter is_shift (state_at M s).transitions) k ≡ Some (record { symbol = terminal t; target = r })))

-- The shifts of these terminals.
pub record AreShifts (M : Lr0Automaton) (s i : ℕ) (row : List TerminalAction) : Type 0 where
  pub ordered : AllPairs (λ x y. x.terminal < y.terminal) row
  pub are : (x : TerminalAction) → Contains row x ↔ ((x.action ≡ shift) × IsShiftedTo M s i x.terminal)
