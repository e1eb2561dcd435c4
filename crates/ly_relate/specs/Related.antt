-- The relations of an automaton, over numbered transitions.
use Rattle.std.specs.Prelude.{◌≡◌, ◌↔◌, ◌⊎◌, ◌<◌, ◌≤◌, ℕ, List, Some, slice_get, length, Contains}
use Rattle.ly_join.specs.Grammar.{nonterminal}
use Rattle.ly_digraph.specs.Digraph.{Digraph, IsEdge}
use Rattle.ly_lr0.specs.Automaton.{Lr0Automaton, goto_of}
use Rattle.ly_relate.specs.Relations.{Includes, LooksBack, Reads}

-- A nonterminal transition: from a state by a nonterminal to a state.
pub record Goto : Type 0 where
  pub from : ℕ
  pub symbol : ℕ
  pub target : ℕ

-- A rule that is complete in a state looks back to the transitions that a node represents.
pub record Lookback : Type 0 where
  pub state : ℕ
  pub rule : ℕ
  pub node : ℕ

-- The nonterminal transitions by number, and the pairs of reads, includes and lookback.
pub record Relations : Type 0 where
  pub gotos : List Goto
  pub reads : Digraph
  pub includes : Digraph
  pub lookbacks : List Lookback

-- the nonterminal transitions, each once
pub record AreGotos (M : Lr0Automaton) (gotos : List Goto) : Type 0 where
  pub are : (n : ℕ) (x : Goto) → slice_get gotos n ≡ Some x → goto_of M x.from (nonterminal x.symbol) ≡ Some x.target
  pub all : (p A r : ℕ) → goto_of M p (nonterminal A) ≡ Some r
      → (n : ℕ) × (slice_get gotos n ≡ Some (record { from = p; symbol = A; target = r }))
  pub once : (n m : ℕ) (x : Goto) → slice_get gotos n ≡ Some x → slice_get gotos m ≡ Some x → n ≡ m

-- the transitions with these numbers are related
abbrev pub AreRelated : List Goto → (ℕ → ℕ → ℕ → ℕ → Type 0) → ℕ → ℕ → Type 0
AreRelated gotos R i j = (x : Goto) × (y : Goto) × (slice_get gotos i ≡ Some x) × (slice_get gotos j ≡ Some y)
    × R x.from x.symbol y.from y.symbol

-- transition i reads transition j
abbrev pub IsRead : Lr0Automaton → List Goto → ℕ → ℕ → Type 0
IsRead M gotos = AreRelated gotos (Reads M.grammar (goto_of M))

-- transition i includes transition j
abbrev pub IsIncluding : Lr0Automaton → List Goto → ℕ → ℕ → Type 0
IsIncluding M gotos = AreRelated gotos (Includes M.grammar (goto_of M))

-- edges from each transition to those that it is related to, and to no others
pub record AreEdges (gotos : List Goto) (R : ℕ → ℕ → Type 0) (g : Digraph) : Type 0 where
  pub nodes : g.nodes ≡ length gotos
  pub edges : (i j : ℕ) → IsEdge g i j ↔ R i j

-- A node represents the transition with its number. A node past these represents each transition to which its edges
-- lead.
abbrev pub StandsFor : List Goto → Digraph → ℕ → ℕ → Type 0
StandsFor gotos g k j = (k ≡ j) ⊎ ((length gotos ≤ k) × IsEdge g k j)

-- Edges from each transition to nodes that represent those that it is related to, and no others.
pub record AreGathered (gotos : List Goto) (R : ℕ → ℕ → Type 0) (g : Digraph) : Type 0 where
  pub nodes : length gotos ≤ g.nodes
  pub gathered : (k j : ℕ) → length gotos ≤ k → IsEdge g k j → j < length gotos
  pub edges : (i j : ℕ) → i < length gotos → j < length gotos → ((k : ℕ) × IsEdge g i k × StandsFor gotos g k j) ↔ R i j

-- Complete rules look back to nodes that represent the transitions to which they look back, and no others.
pub record AreLookbacks (M : Lr0Automaton) (gotos : List Goto) (g : Digraph) (lookbacks : List Lookback) : Type 0 where
  pub stands : (l : Lookback) → Contains lookbacks l
      → (l.node < g.nodes) × (j : ℕ) × (j < length gotos) × StandsFor gotos g l.node j
  pub back : (s p j : ℕ) → j < length gotos
      → ((k : ℕ) × Contains lookbacks (record { state = s; rule = p; node = k }) × StandsFor gotos g k j)
      ↔ ((x : Goto) × (slice_get gotos j ≡ Some x) × LooksBack M.grammar (goto_of M) s p x.from x.symbol)

-- The pairs are exactly those of the relations of the automaton.
pub record AreRelations (M : Lr0Automaton) (R : Relations) : Type 0 where
  pub gotos : AreGotos M R.gotos
  pub reads : AreEdges R.gotos (IsRead M R.gotos) R.reads
  pub includes : AreGathered R.gotos (IsIncluding M R.gotos) R.includes
  pub lookbacks : AreLookbacks M R.gotos R.includes R.lookbacks
