-- Transitions over nonterminals as they are numbered: state by state.
use Rattle.std.specs.Prelude.{◌≡◌, ◌≤◌, ◌++◌, ℕ, suc, List, [], ◌∷◌, length, slice_index_or, take}
use Rattle.ly_join.specs.Grammar.{Symbol, nonterminal, terminal}
use Rattle.ly_lr0.specs.Automaton.{Lr0Automaton, IsLr0Automaton, State, Transition}
use Rattle.ly_relate.specs.Related.{Goto}

-- the numbered transitions of an automaton, and for each state the number of its first, and at last their count
pub record Numbering : Type 0 where
  pub automaton : Lr0Automaton
  pub gotos : List Goto
  pub first : List ℕ

-- the transition of a state by a symbol, if that is a nonterminal
abbrev pub goto_over : ℕ → Symbol → ℕ → List Goto
goto_over s (terminal t) r = []
goto_over s (nonterminal A) r = record { from = s; symbol = A; target = r } ∷ []

-- those of a state's transitions
abbrev pub row_gotos : ℕ → List Transition → List Goto
row_gotos s [] = []
row_gotos s (t ∷ ts) = goto_over s t.symbol t.target ++ row_gotos s ts

-- those of states, of which the first has a number
abbrev pub gotos_from : ℕ → List State → List Goto
gotos_from s [] = []
gotos_from s (q ∷ states) = row_gotos s q.transitions ++ gotos_from (suc s) states

-- how many transitions over nonterminals the states before one have
abbrev pub count_before : Lr0Automaton → ℕ → ℕ
count_before M s = length (gotos_from 0 (take s M.states))

-- The transitions are those of the automaton, state by state.
pub record IsNumbering (n : Numbering) : Type 0 where
  pub lawful : IsLr0Automaton n.automaton
  pub gotos : n.gotos ≡ gotos_from 0 n.automaton.states
  pub long : length n.first ≡ suc (length n.automaton.states)
  pub first : (s : ℕ) → s ≤ length n.automaton.states → slice_index_or n.first s 0 ≡ count_before n.automaton s
