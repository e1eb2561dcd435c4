-- Laws of automata and of the subset construction.
use Rattle.std.specs.Prelude.{◌≡◌, ◌↔◌, ℕ, ◌*◌, ◌<◌, ◌≤◌, List, length, Bool}
use Rattle.ly_ere.specs.Expression.{Expression}
use Rattle.ly_ere.specs.declared.pattern.Rule.{Rule}
use Rattle.ly_position.specs.Nfa.{Nfa, RunsTo}
use Rattle.ly_position.specs.Patterns.{RunsFrom}
use Rattle.ly_position.specs.Spots.{HasPositions}
use Rattle.ly_subset.specs.Automaton.{Automaton, IsAutomaton, IsBreadthFirst, IsReached, IsTrim, start_of, rule_after}
use Rattle.ly_subset.specs.Classes.{AreReadAlike}
use Rattle.ly_subset.specs.RuleSets.{AreSpotSets, AreSpotsAlike, HaveMoreSets}
use Rattle.ly_subset.specs.Subsets.{AreSubsets, HasMoreSets, IsLeastRule}

-- states that are numbered breadth first are reachable
abbrev pub NumberedAreReached : Type 0
NumberedAreReached = (A : Automaton) → IsAutomaton A → IsBreadthFirst A → (s : ℕ) → s < length A.rules
    → IsReached A s

-- a walk over the DFA ends in the least rule that a run over the positions reaches
abbrev pub WalksAgree : Type 0
WalksAgree = (nfa : Nfa) (conditions : ℕ) (A : Automaton) (c : ℕ) (line : Bool) (w : List ℕ)
    → AreSubsets nfa conditions A → c < conditions
    → IsLeastRule (λ i. RunsFrom nfa c line i w) (rule_after A (start_of A c line) w)

-- if each position leads to an end mark, each state is reachable and leads to a rule
abbrev pub SubsetsAreTrim : Type 0
SubsetsAreTrim = (nfa : Nfa) (conditions : ℕ) (A : Automaton) → AreSubsets nfa conditions A → IsAutomaton A
    → ((p : ℕ) → p < length nfa.positions → (i : ℕ) × (w : List ℕ) × RunsTo nfa i p w) → IsTrim A

-- The states of the DFA of an automaton with the positions of rules are the sets of spots that can come next.
abbrev pub SubsetsAreSpotSets : Type 0
SubsetsAreSpotSets = (names : List Expression) (rules : List Rule) (conditions : ℕ) (nfa : Nfa) (A : Automaton)
    → HasPositions names rules conditions nfa → AreSubsets nfa conditions A → IsAutomaton A
    → AreSpotSets names rules conditions A

-- such an automaton has more than n sets of positions if and only if the rules have
abbrev pub MoreSetsOfRules : Type 0
MoreSetsOfRules = (names : List Expression) (rules : List Rule) (conditions : ℕ) (nfa : Nfa) (n : ℕ)
    → HasPositions names rules conditions nfa
    → HasMoreSets nfa conditions n ↔ HaveMoreSets names rules conditions n

-- if the states are the sets of spots that can come next, there are no more such sets than states
abbrev pub NoMoreSetsThanStates : Type 0
NoMoreSetsThanStates = (names : List Expression) (rules : List Rule) (conditions : ℕ) (A : Automaton) (n : ℕ)
    → AreSpotSets names rules conditions A → length A.rules ≤ n → HaveMoreSets names rules conditions n → ⊥

-- two bytes are in one class if and only if the same positions of the patterns read them
abbrev pub ClassesOfRules : Type 0
ClassesOfRules = (names : List Expression) (rules : List Rule) (conditions : ℕ) (nfa : Nfa) (a b : ℕ)
    → HasPositions names rules conditions nfa → AreReadAlike nfa a b ↔ AreSpotsAlike names rules a b

-- Over the same classes of bytes, take two automata of the same rules whose states are the sets of positions that can
-- come next, numbered breadth first. They have the same entries, so the numbers of the states are unique.
abbrev pub EntriesAreOne : Type 0
EntriesAreOne = (names : List Expression) (rules : List Rule) (conditions : ℕ) (A B : Automaton) → IsAutomaton A
    → IsAutomaton B → IsBreadthFirst A → IsBreadthFirst B → AreSpotSets names rules conditions A
    → AreSpotSets names rules conditions B → A.class_of ≡ B.class_of → A.classes ≡ B.classes
    → A.starts ≡ 2 * conditions → B.starts ≡ 2 * conditions → A.entries ≡ B.entries
