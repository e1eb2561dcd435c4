-- The positions of the patterns of rules, and automata that have exactly these.
use Rattle.std.specs.Prelude.{◌≡◌, ◌↔◌, ℕ, ◌<◌, List, length, slice_get, Bool, Contains, Some}
use Rattle.ly_ere.specs.Expression.{Expression}
use Rattle.ly_ere.specs.Winner.{IsActive}
use Rattle.ly_ere.specs.declared.pattern.Rule.{Rule}
use Rattle.ly_position.specs.Nfa.{Nfa, ReadsByte, Follows, IsEnd, starts_of}
use Rattle.ly_position.specs.Written.{pattern_written}
use Rattle.ly_position.specs.Numbered.{set_count, set_at, IsPosition, ComesFirst, ComesAfter, ComesNext}

-- a spot: a rule, and a number in its expanded pattern
pub record Spot : Type 0 where
  pub rule : ℕ
  pub number : ℕ

-- the rule exists, and the number is a position of its pattern
abbrev pub IsSpot : List Expression → List Rule → Spot → Type 0
IsSpot names rules s = (r : Rule) × (slice_get rules s.rule ≡ Some r)
    × IsPosition (pattern_written names r.pattern) s.number

-- The spot can come next in a condition after w, which begins at the start of a line or elsewhere.
abbrev pub IsNext : List Expression → List Rule → ℕ → Bool → List ℕ → Spot → Type 0
IsNext names rules condition line w s = (r : Rule) × IsActive rules condition line s.rule r
    × ComesNext (pattern_written names r.pattern) w s.number

-- Each position p of the automaton is the spot that spot gives for it. The automaton has each position of the patterns
-- once, with its bytes, the positions that can come next after it, and those that can come first.
pub record ArePositionsOf (names : List Expression) (rules : List Rule) (conditions : ℕ) (nfa : Nfa) (spot : ℕ → Spot)
    : Type 0 where
  pub is_spot : (p : ℕ) → p < length nfa.positions → IsSpot names rules (spot p)
  pub once : (p q : ℕ) → p < length nfa.positions → q < length nfa.positions → spot p ≡ spot q → p ≡ q
  pub each : (s : Spot) → IsSpot names rules s → (p : ℕ) × (p < length nfa.positions) × (spot p ≡ s)
  pub ends : (p i : ℕ) (r : Rule) → p < length nfa.positions → slice_get rules (spot p).rule ≡ Some r
      → IsEnd nfa p i ↔ (((spot p).rule ≡ i) × ((spot p).number ≡ set_count (pattern_written names r.pattern)))
  pub reads : (p b : ℕ) (r : Rule) → p < length nfa.positions → slice_get rules (spot p).rule ≡ Some r
      → ReadsByte nfa p b ↔ Contains (set_at (pattern_written names r.pattern) (spot p).number) b
  pub follows : (p q : ℕ) (r : Rule) → p < length nfa.positions → q < length nfa.positions
      → slice_get rules (spot p).rule ≡ Some r → Follows nfa p q
      ↔ (((spot q).rule ≡ (spot p).rule)
      × ComesAfter (pattern_written names r.pattern) (spot p).number (spot q).number)
  pub starts : (c : ℕ) (line : Bool) (p : ℕ) (r : Rule) → c < conditions → p < length nfa.positions
      → slice_get rules (spot p).rule ≡ Some r → Contains (starts_of nfa c line) p
      ↔ (IsActive rules c line (spot p).rule r × ComesFirst (pattern_written names r.pattern) (spot p).number)
  pub follow_within : (p q : ℕ) → Follows nfa p q → q < length nfa.positions
  pub starts_within : (c : ℕ) (line : Bool) (q : ℕ) → Contains (starts_of nfa c line) q → q < length nfa.positions

-- the automaton has the positions of the rules
abbrev pub HasPositions : List Expression → List Rule → ℕ → Nfa → Type 0
HasPositions names rules conditions nfa = (spot : ℕ → Spot) × ArePositionsOf names rules conditions nfa spot
