-- What leads backwards through an automaton.
use Rattle.std.specs.Prelude.{◌≡◌, ◌↔◌, ◌<◌, ◌≤◌, ◌+◌, ℕ, List, [], Some, length, slice_index_or, Contains}
use Rattle.ly_base.specs.declared.numbers.StateNo.{StateNo}
use Rattle.ly_join.specs.Grammar.{Grammar, Symbol, nonterminal}
use Rattle.ly_lr0.specs.Automaton.{Lr0Automaton, goto_of}
use Rattle.ly_counterexamples.specs.Demands.{IsAhead}
use Rattle.ly_lr0.specs.declared.item.Item.{Item}

-- For each state those from which transitions lead to it.
pub record ArePredecessors (M : Lr0Automaton) (lists : List (List StateNo)) : Type 0 where
  pub count : length lists ≡ length M.states
  pub exact : (s : ℕ) (q : StateNo) → s < length M.states → Contains (slice_index_or lists s []) q
      ↔ ((X : Symbol) × (goto_of M q.0 X ≡ Some s))

-- For each nonterminal the items that wait for it.
pub record AreWaiting (G : Grammar) (lists : List (List Item)) : Type 0 where
  pub count : length lists ≡ G.accept + 1
  pub exact : (A : ℕ) (i : Item) → A ≤ G.accept → Contains (slice_index_or lists A []) i
      ↔ ((rest : List Symbol) × IsAhead G i (nonterminal A) rest)
