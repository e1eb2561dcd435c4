-- What matches, by the states of an automaton.
use Rattle.std.specs.Prelude.{◌≡◌, ◌<◌, ℕ, Some}
use Rattle.ly_subset.specs.Automaton.{Automaton, next_by_class, rule_of}

-- the class leads from the state to one with the rule
abbrev pub LeadsByClass : Automaton → ℕ → ℕ → ℕ → Type 0
LeadsByClass A s c i = rule_of A (next_by_class A s c) ≡ Some i

-- some class does
abbrev pub LeadsAtOnce : Automaton → ℕ → ℕ → Type 0
LeadsAtOnce A s i = (c : ℕ) × (c < A.classes) × LeadsByClass A s c i
