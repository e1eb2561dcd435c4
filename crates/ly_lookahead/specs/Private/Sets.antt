-- Sets by rows, as they are found.
use Rattle.std.specs.Prelude.{◌≡◌, ◌↔◌, ◌⊎◌, ◌≤◌, ◌+◌, ℕ, List, Contains, Some, length, slice_get, slice_index_or}
use Rattle.ly_join.specs.Grammar.{terminal}
use Rattle.ly_sets.specs.NumberSet.{NumberSet, Member}
use Rattle.ly_sets.specs.SetMatrix.{row}
use Rattle.ly_digraph.specs.Digraph.{Digraph, IsEdge}
use Rattle.ly_lr0.specs.Automaton.{Lr0Automaton, Transition, goto_of, state_at}
use Rattle.ly_relate.specs.Related.{Goto, Lookback}
use Rattle.ly_relate.specs.Relations.{DirectlyReads, Follow}

-- each row has what its transition directly reads
abbrev pub AreDirectSets : Lr0Automaton → List Goto → List NumberSet → Type 0
AreDirectSets M gotos sets = (i t : ℕ) → Member (row sets i) t
    ↔ ((x : Goto) × (slice_get gotos i ≡ Some x) × DirectlyReads M.grammar (goto_of M) x.from x.symbol t)

-- the terminals of transitions came to one row, and nothing else to any
abbrev pub AreInserted : List Transition → ℕ → List NumberSet → List NumberSet → Type 0
AreInserted transitions n old new = (i t : ℕ) → Member (row new i) t
    ↔ (Member (row old i) t ⊎ ((i ≡ n) × (r : ℕ) × Contains transitions (record { symbol = terminal t; target = r })))

-- a number follows a transition to which an edge leads from a node
abbrev pub FollowsGathered : Lr0Automaton → List Goto → Digraph → ℕ → ℕ → Type 0
FollowsGathered M gotos includes k t = (j : ℕ) × (x : Goto) × IsEdge includes k j × (slice_get gotos j ≡ Some x)
    × Follow M.grammar (goto_of M) x.from x.symbol t

-- Each transition's row has what follows the transition. A row past them has what follows those to which edges lead
-- from its number, and so nothing where it is past the nodes.
pub record AreFollowSets (M : Lr0Automaton) (gotos : List Goto) (includes : Digraph) (sets : List NumberSet)
    : Type 0 where
  pub follows : (n t : ℕ) (x : Goto) → slice_get gotos n ≡ Some x
      → Member (row sets n) t ↔ Follow M.grammar (goto_of M) x.from x.symbol t
  pub gathered : (k t : ℕ) → length gotos ≤ k → Member (row sets k) t ↔ FollowsGathered M gotos includes k t

-- the row is that of the rule that looks back, in the state where it is complete
abbrev pub IsRowOf : Lr0Automaton → List ℕ → Lookback → ℕ → Type 0
IsRowOf M first l r = (k : ℕ) × (slice_get (state_at M l.state).complete k ≡ Some l.rule)
    × (r ≡ slice_index_or first l.state 0 + k)

-- a number comes to a row from one of the nodes to which its rule looks back
abbrev pub ComesBack : Lr0Automaton → List ℕ → List Lookback → List NumberSet → ℕ → ℕ → Type 0
ComesBack M first lookbacks sets r t =
    (l : Lookback) × Contains lookbacks l × IsRowOf M first l r × Member (row sets l.node) t

-- the rows after what comes to them along lookbacks
abbrev pub AreLookedBack : Lr0Automaton → List ℕ → List Lookback → List NumberSet → List NumberSet → Type 0
AreLookedBack M first lookbacks old new = (r t : ℕ)
    → Member (row new r) t ↔ (Member (row old r) t ⊎ ComesBack M first lookbacks old r t)
