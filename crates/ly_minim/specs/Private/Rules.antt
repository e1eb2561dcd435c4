-- The rules of some states.
use Rattle.std.specs.Prelude.{◌≡◌, ℕ, ◌<◌, List, length, slice_index_or, Option, Some, None}
use Rattle.ly_subset.specs.Automaton.{Automaton, rule_of}

-- each state has its rule
pub record HaveRules (A : Automaton) (states : List ℕ) (rules : List (Option ℕ)) : Type 0 where
  pub count : length rules ≡ length states
  pub same : (n : ℕ) → n < length states
      → slice_index_or rules n None ≡ rule_of A (Some (slice_index_or states n 0))
