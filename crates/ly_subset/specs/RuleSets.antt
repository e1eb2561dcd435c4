-- The states of a scanner in terms of its rules alone: sets of positions of the patterns that can come next after a
-- string.
use Rattle.std.specs.Prelude.{◌≡◌, ◌↔◌, ℕ, suc, ◌<◌, List, length, slice_get, Contains, Option, Some, None, All}
use Rattle.std.specs.Prelude.{AllPairs}
use Rattle.ly_ere.specs.Expression.{Expression}
use Rattle.ly_ere.specs.declared.pattern.Rule.{Rule}
use Rattle.ly_position.specs.Numbered.{set_at}
use Rattle.ly_position.specs.Spots.{Spot, IsNext, IsSpot}
use Rattle.ly_position.specs.Written.{pattern_written}
use Rattle.ly_subset.specs.Automaton.{Automaton, start_of, state_after}
use Rattle.ly_subset.specs.Subsets.{Beginning}

-- the spot can come next after the string
abbrev pub IsSpotAfter : List Expression → List Rule → Beginning → Spot → Type 0
IsSpotAfter names rules o s = IsNext names rules o.condition o.line o.text s

-- the same spots can come next after two strings
abbrev pub HaveSameSpots : List Expression → List Rule → Beginning → Beginning → Type 0
HaveSameSpots names rules o u = (s : Spot) → IsSpotAfter names rules o s ↔ IsSpotAfter names rules u s

-- some spot can come next after a string from the start of one of the conditions
abbrev pub HasSpot : List Expression → List Rule → ℕ → Beginning → Type 0
HasSpot names rules conditions o = (o.condition < conditions) × ((s : Spot) × IsSpotAfter names rules o s)

-- More than n sets of spots can come next: after n + 1 strings, none of the sets empty and no two equal.
pub record HaveMoreSets (names : List Expression) (rules : List Rule) (conditions n : ℕ) : Type 0 where
  pub after : List Beginning
  pub count : length after ≡ suc n
  pub alive : All (HasSpot names rules conditions) after
  pub apart : AllPairs (λ o u. HaveSameSpots names rules o u → ⊥) after

-- the state after a string, if it has one
abbrev pub state_of : Automaton → Beginning → Option ℕ
state_of A o = state_after A (start_of A o.condition o.line) o.text

-- The states are, one to one, the nonempty sets of spots that can come next. Two strings lead to one state if and only
-- if the same spots can come next, a string leads to no state if and only if none can, and some string leads to each
-- state.
pub record AreSpotSets (names : List Expression) (rules : List Rule) (conditions : ℕ) (A : Automaton) : Type 0 where
  pub within : (o : Beginning) (s : ℕ) → o.condition < conditions → state_of A o ≡ Some s → s < length A.rules
  pub nowhere : (o : Beginning) → o.condition < conditions
      → (state_of A o ≡ None) ↔ ((s : Spot) → IsSpotAfter names rules o s → ⊥)
  pub same : (o u : Beginning) → o.condition < conditions → u.condition < conditions
      → (state_of A o ≡ state_of A u) ↔ HaveSameSpots names rules o u
  pub each : (s : ℕ) → s < length A.rules → (o : Beginning) × (o.condition < conditions) × (state_of A o ≡ Some s)

-- the set of the spot contains the byte
abbrev pub IsReadAt : List Expression → List Rule → Spot → ℕ → Type 0
IsReadAt names rules s b = (r : Rule) × (slice_get rules s.rule ≡ Some r)
    × Contains (set_at (pattern_written names r.pattern) s.number) b

-- each position of the patterns reads both bytes or neither
abbrev pub AreSpotsAlike : List Expression → List Rule → ℕ → ℕ → Type 0
AreSpotsAlike names rules a b = (s : Spot) → IsSpot names rules s → IsReadAt names rules s a ↔ IsReadAt names rules s b
