-- Groups of conflicts that are reported as one.
use Rattle.std.specs.Prelude.{◌≡◌, ◌≢◌, ◌<◌, ℕ, List, Option, None, Some, AllPairs, Contains, IfSome, length, slice_get}
use Rattle.ly_lr0.specs.Automaton.{Lr0Automaton}
use Rattle.ly_resolve.specs.Conflicts.{Conflict, reduce_reduce}
use Rattle.ly_resolve.specs.Resolved.{Resolved}
use Rattle.ly_counterexamples.specs.Demands.{HasMoreDemands}
use Rattle.ly_counterexamples.specs.Examples.{IsSearchResult, IsExample}
use Rattle.ly_join.specs.Grammar.{Symbol}
use Rattle.ly_counterexamples.specs.declared.example.Example.{Example}
use Rattle.ly_counterexamples.specs.declared.example.Example.TheVariants.{At, Merged, Unknown}
use Rattle.ly_conflicts.specs.declared.common.ExampleKind.{ExampleKind}
use Rattle.ly_conflicts.specs.declared.common.ExampleKind.TheVariants as answer
use Rattle.ly_conflicts.specs.declared.groups.Group.{Group}

-- the greatest number of demands that a search for a counterexample visits
abbrev pub most_demands : ℕ
most_demands = 20000

-- conflicts that differ only in the terminal
abbrev pub DifferInTerminal : Conflict → Conflict → Type 0
DifferInTerminal c d = (c.prefix ≡ d.prefix) × (c.kind ≡ d.kind) × (c.rule ≡ d.rule) × (c.choice ≡ d.choice)

-- the result of a search for a counterexample; none if no search was made
abbrev pub answer_from : Option Example → Option ExampleKind
answer_from None = None
answer_from (Some (At string)) = Some answer.At
answer_from (Some Merged) = Some answer.Merged
answer_from (Some Unknown) = Some answer.Unknown

-- The result is true: the conflict has a counterexample, or it has none, or it has more demands than are visited.
abbrev pub IsTrueOf : Lr0Automaton → Conflict → Option ExampleKind → Type 0
IsTrueOf M c None = Unit {0}
IsTrueOf M c (Some answer.At) = (g : List Symbol) × IsExample M.grammar c g
IsTrueOf M c (Some answer.Merged) = (g : List Symbol) → IsExample M.grammar c g → ⊥
IsTrueOf M c (Some answer.Unknown) = HasMoreDemands M c most_demands

-- the conflict with this index
abbrev pub IsConflictAt : Resolved → ℕ → Conflict → Type 0
IsConflictAt r i c = slice_get r.conflicts i ≡ Some c

-- A group has at least one conflict, by their indices, ascending. All differ from the first only in the terminal. The
-- result of the search is true of the first, and for reduce/reduce conflicts of each.
pub record IsGroup (r : Resolved) (g : Group) : Type 0 where
  pub first : ℕ
  pub begins : slice_get g.conflicts.items 0 ≡ Some first
  pub rising : AllPairs (λ i j. i < j) g.conflicts.items
  pub conflict : Conflict
  pub is_first : IsConflictAt r first conflict
  pub example : IfSome g.example (IsSearchResult r.automaton conflict most_demands)
  pub alike : (i : ℕ) → Contains g.conflicts.items i → (c : Conflict) × IsConflictAt r i c × DifferInTerminal conflict c
      × (c.kind ≡ reduce_reduce → IsTrueOf r.automaton c (answer_from g.example))

-- conflicts of both groups that differ only in the terminal are reduce/reduce conflicts with different results
abbrev pub AreApart : Resolved → Group → Group → Type 0
AreApart r g h = (i j : ℕ) (c d : Conflict) → Contains g.conflicts.items i → Contains h.conflicts.items j
    → IsConflictAt r i c → IsConflictAt r j d → DifferInTerminal c d
    → (c.kind ≡ reduce_reduce) × (answer_from g.example ≢ answer_from h.example)

-- All conflicts in groups, each in exactly one, in the order of their first ones. No two groups could be one.
pub record AreGroups (r : Resolved) (groups : List Group) : Type 0 where
  pub are : (g : Group) → Contains groups g → IsGroup r g
  pub each : (i : ℕ) → i < length r.conflicts → (g : Group) × Contains groups g × Contains g.conflicts.items i
  pub once : AllPairs (λ g h. (i : ℕ) → Contains g.conflicts.items i → Contains h.conflicts.items i → ⊥) groups
  pub ordered : AllPairs (λ g h. (j : ℕ) → Contains h.conflicts.items j
      → (i : ℕ) × Contains g.conflicts.items i × (i < j)) groups
  pub apart : AllPairs (AreApart r) groups
