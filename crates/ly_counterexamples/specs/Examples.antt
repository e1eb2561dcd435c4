-- Counterexamples of conflicts: strings of symbols at which both actions are possible (Knuth 1965). Strings have their
-- last symbol first.
use Rattle.std.specs.Prelude.{◌≡◌, ℕ, List, [], Some, map, reverse, slice_get}
use Rattle.ly_join.specs.Grammar.{Grammar, Symbol, symbol_of, terminal}
use Rattle.ly_grammar.specs.Items.{IsNextSymbol, Merges, Valid}
use Rattle.ly_lr0.specs.Automaton.{Lr0Automaton}
use Rattle.ly_resolve.specs.Actions.{Action, error, reduce, shift}
use Rattle.ly_resolve.specs.Conflicts.{Conflict, Kind, reduce_reduce, shift_reduce}
use Rattle.ly_resolve.specs.Resolved.{Resolved}
use Rattle.ly_counterexamples.specs.Demands.{HasMoreDemands}
use Rattle.ly_counterexamples.specs.declared.example.Example as code
use Rattle.ly_counterexamples.specs.declared.example.Example.TheVariants.{At, Merged, Unknown}

-- The action is possible at this very string before the terminal, without merging. A shift is possible if an item that
-- is valid there has the terminal after its dot. A reduction is possible if the rule is complete and valid there with
-- the terminal.
abbrev pub IsPossible : Grammar → List Symbol → ℕ → Action → Type 0
IsPossible G g t shift = IsNextSymbol G g (terminal t)
IsPossible G g t (reduce p) = (before : List Symbol) × Valid G g p before [] t
IsPossible G g t error = ⊥

-- the rival of a conflict's rule: the shift, or the reduction that is chosen
abbrev pub rival : Kind → Action → Action
rival shift_reduce choice = shift
rival reduce_reduce choice = choice

-- A counterexample of a conflict: a string with the core of its prefix at which its rule and its rival are possible.
pub record IsExample (G : Grammar) (c : Conflict) (g : List Symbol) : Type 0 where
  pub merges : Merges G c.prefix g
  pub rule : IsPossible G g c.terminal (reduce c.rule)
  pub rival : IsPossible G g c.terminal (rival c.kind c.choice)

-- A string with the core of a conflict's prefix at which an action is possible before its terminal.
pub record IsPlaceOf (G : Grammar) (c : Conflict) (a : Action) (g : List Symbol) : Type 0 where
  pub merges : Merges G c.prefix g
  pub possible : IsPossible G g c.terminal a

-- What a search returns for a conflict: a counterexample; or that there is none, since the conflict comes from merging
-- alone; or that more than this many demands follow from its first one.
abbrev pub IsSearchResult : Lr0Automaton → Conflict → ℕ → code.Example → Type 0
IsSearchResult M c bound (At string) = IsExample M.grammar c (reverse (map symbol_of string.items))
IsSearchResult M c bound Merged = (g : List Symbol) → IsExample M.grammar c g → ⊥
IsSearchResult M c bound Unknown = HasMoreDemands M c bound

-- the conflict with this index has no counterexample
abbrev pub HasNoExample : Resolved → ℕ → Type 0
HasNoExample r i = (c : Conflict) × (slice_get r.conflicts i ≡ Some c)
    × ((g : List Symbol) → IsExample r.automaton.grammar c g → ⊥)
