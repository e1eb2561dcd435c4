-- The lesser of two rules, and where rules end.
use Rattle.std.specs.Prelude.{◌<◌, ℕ, List, length, Option, Some, None, min, All, Contains}
use Rattle.ly_position.specs.Nfa.{Nfa, IsEnd}
use Rattle.ly_subset.specs.Private.Packed.{run_of}
use Rattle.ly_subset.specs.declared.chains.Span.{Span}

-- a rule, or a lesser one if there is one
abbrev pub lesser_rule : Option ℕ → ℕ → ℕ
lesser_rule None i = i
lesser_rule (Some j) i = min j i

-- Positions, those below a bound at which the pattern of a rule ends among them.
pub record AreEnds (nfa : Nfa) (bound : ℕ) (ends : List ℕ) : Type 0 where
  pub within : All (λ p. p < length nfa.positions) ends
  pub all : (p i : ℕ) → p < bound → IsEnd nfa p i → Contains ends p

-- the position is one of the span, if there is one
abbrev pub LiesIn : Option Span → ℕ → Type 0
LiesIn None p = Unit {0}
LiesIn (Some span) p = Contains (run_of span.first span.last) p

-- the pattern of the rule ends at one of the positions that lies in the span
abbrev pub HasEndIn : Nfa → Option Span → List ℕ → ℕ → Type 0
HasEndIn nfa span ps i = (p : ℕ) × Contains ps p × LiesIn span p × IsEnd nfa p i
