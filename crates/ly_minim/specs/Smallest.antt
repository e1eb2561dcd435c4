-- Minimal automata: with as few states as any that give the same rules (Huffman 1954, Moore 1956).
use Rattle.std.specs.Prelude.{◌≡◌, ◌≢◌, ℕ, ◌<◌, ◌≤◌, List, length, Bool, Option, Some}
use Rattle.ly_subset.specs.Automaton.{Automaton, IsAutomaton, IsTrim, rule_after, start_of}

-- some string has a rule from one of them, and another rule or none from the other
abbrev pub Distinguished : Automaton → Option ℕ → Option ℕ → Type 0
Distinguished A s t = (w : List ℕ) × (rule_after A s w ≢ rule_after A t w)

-- a trim automaton in which any two states are distinguished (a reduced automaton)
pub record IsReducedAutomaton (A : Automaton) : Type 0 where
  pub trim : IsTrim A
  pub distinguished : (s t : ℕ) → s < length A.rules → t < length A.rules → s ≢ t → Distinguished A (Some s) (Some t)

-- both give the same rule for every start and string
abbrev pub HaveSameRules : Automaton → Automaton → Type 0
HaveSameRules A B = (c : ℕ) (line : Bool) (w : List ℕ)
    → rule_after A (start_of A c line) w ≡ rule_after B (start_of B c line) w

-- a reduced automaton is minimal: none that gives the same rule for every start and string has fewer states
abbrev pub Smallest : Type 0
Smallest = (A B : Automaton) → IsReducedAutomaton A → IsAutomaton B → HaveSameRules A B
    → length A.rules ≤ length B.rules
