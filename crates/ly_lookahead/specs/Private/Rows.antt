-- The rows of lookahead sets: one for each node of includes, and then one for each rule that is complete in a state,
-- state by state.
use Rattle.std.specs.Prelude.{◌≡◌, ◌<◌, ◌+◌, ℕ, suc, List, length, slice_index_or}
use Rattle.ly_lr0.specs.Automaton.{Lr0Automaton, state_at}

-- for each of the first n states the row of the first rule that is complete in it, and at last how many rows there are
pub record AreRows (M : Lr0Automaton) (nodes n : ℕ) (first : List ℕ) : Type 0 where
  pub long : length first ≡ suc n
  pub start : slice_index_or first 0 0 ≡ nodes
  pub next : (s : ℕ) → s < n
      → slice_index_or first (suc s) 0 ≡ slice_index_or first s 0 + length (state_at M s).complete
