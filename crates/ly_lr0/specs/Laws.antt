-- What follows from the definition of an automaton.
use Rattle.std.specs.Prelude.{◌≡◌, ℕ, ◌≤◌, length}
use Rattle.ly_grammar.specs.Items.{HasMoreCores}
use Rattle.ly_lr0.specs.Automaton.{Lr0Automaton, IsLr0Automaton}

-- there are no more cores of viable prefixes than states
abbrev pub NoMoreCoresThanStates : Type 0
NoMoreCoresThanStates = (M : Lr0Automaton) (n : ℕ) → IsLr0Automaton M → length M.states ≤ n
    → HasMoreCores M.grammar n → ⊥

-- a grammar has exactly one automaton
abbrev pub AutomatonIsOne : Type 0
AutomatonIsOne = (M N : Lr0Automaton) → IsLr0Automaton M → IsLr0Automaton N → M.grammar ≡ N.grammar → M ≡ N
