-- Positions with follow lists that read the patterns of rules.
use Rattle.std.specs.Prelude.{◌≡◌, ◌≢◌, ◌↔◌, ℕ, ◌<◌, ◌≤◌, List, [], length, AllPairs, Bool, Contains}
use Rattle.ly_ere.specs.Expression.{Expression}
use Rattle.ly_ere.specs.declared.pattern.Rule.{Rule}
use Rattle.ly_ere.specs.Winner.{IsString}
use Rattle.ly_position.specs.Nfa.{Nfa, IsEnd, Follows, RunsTo, follow_of, position_of, starts_of}

-- A run from a start position of the condition reads w and reaches the end mark of rule i.
abbrev pub RunsFrom : Nfa → ℕ → Bool → ℕ → List ℕ → Type 0
RunsFrom nfa condition line i w = (p : ℕ) × Contains (starts_of nfa condition line) p × RunsTo nfa i p w

-- The positions of rules: the runs read the strings of the patterns, every position leads to an end mark, and no list
-- has a member twice.
pub record ArePositions (names : List Expression) (rules : List Rule) (conditions : ℕ) (nfa : Nfa) : Type 0 where
  pub spells : (c : ℕ) (line : Bool) (i : ℕ) (w : List ℕ) → c < conditions → RunsFrom nfa c line i w
      ↔ IsString names rules c line i w
  pub live : (p : ℕ) → p < length nfa.positions → (i : ℕ) × (w : List ℕ) × RunsTo nfa i p w
  pub known : (p i : ℕ) → IsEnd nfa p i → i < length rules
  pub follow_within : (p q : ℕ) → Follows nfa p q → q < length nfa.positions
  pub follow_once : (p : ℕ) → AllPairs (λ a b. a ≢ b) (follow_of (position_of nfa p))
  pub starts_within : (c : ℕ) (line : Bool) (q : ℕ) → Contains (starts_of nfa c line) q → q < length nfa.positions
  pub starts_once : (c : ℕ) (line : Bool) → AllPairs (λ a b. a ≢ b) (starts_of nfa c line)
  pub starts_past : (c : ℕ) (line : Bool) → conditions ≤ c → starts_of nfa c line ≡ []
