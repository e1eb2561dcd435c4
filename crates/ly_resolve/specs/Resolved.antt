-- The actions of a parser in each state of an automaton.
use Rattle.std.specs.Prelude.{◌≡◌, ◌↔◌, ℕ, ◌<◌, List, Bool, Some, slice_get, length, AllPairs, Contains, IsTrue}
use Rattle.ly_join.specs.Grammar.{Grammar, Symbol}
use Rattle.ly_join.specs.Joined.{Spec}
use Rattle.ly_lr0.specs.Automaton.{Lr0Automaton, State}
use Rattle.ly_resolve.specs.Actions.{Action, Judge, IsAction, IsConflictFree, IsRaw}
use Rattle.ly_resolve.specs.Conflicts.{Conflict, AreConflicts}
use Rattle.ly_resolve.specs.Precedence.{judge_of}

-- The action before a terminal.
pub record TerminalAction : Type 0 where
  pub terminal : ℕ
  pub action : Action

-- A specification with its automaton: the actions in each state, the conflicts, and whether at most one action is
-- possible everywhere.
pub record Resolved : Type 0 where
  pub spec : Spec
  pub automaton : Lr0Automaton
  pub rows : List (List TerminalAction)
  pub conflicts : List Conflict
  pub conflict_free : Bool

-- The entries are the actions at a string, in the order of the terminals: one for each terminal with a possible action,
-- and no others.
pub record IsRow (G : Grammar) (judge : Judge) (g : List Symbol) (row : List TerminalAction) : Type 0 where
  pub ordered : AllPairs (λ x y. x.terminal < y.terminal) row
  pub are : (x : TerminalAction) → Contains row x ↔ IsAction G judge g x.terminal x.action
  pub whole : (t : ℕ) (a : Action) → IsRaw G g t a → (b : Action) × IsAction G judge g t b

-- The rows are the actions in each state, the conflicts are those of the grammar, and the flag is whether at most one
-- action is possible everywhere, before precedence is consulted.
pub record AreResolved (s : Spec) (M : Lr0Automaton) (r : Resolved) : Type 0 where
  pub spec : r.spec ≡ s
  pub automaton : r.automaton ≡ M
  pub states : length r.rows ≡ length M.states
  pub rows : (k : ℕ) (q : State) (row : List TerminalAction) → slice_get M.states k ≡ Some q → slice_get r.rows k
      ≡ Some row
      → IsRow M.grammar (judge_of s) q.prefix row
  pub conflicts : AreConflicts M.grammar (judge_of s) r.conflicts
  pub free : IsTrue r.conflict_free ↔ IsConflictFree M.grammar
