-- What a look at a term shows, and the order of children: those of a child precede it.
use Rattle.std.specs.Prelude.{◌≡◌, ℕ, List, Option, Some, length, slice_get, slice_index_or, take}
use Rattle.ly_tree.specs.Forest.{node_over, Grown, StandsFor}
use Rattle.ly_tree.specs.Term.{Term, leaf, nothing}
use Rattle.ly_tree.specs.declared.forest.TermRef.{TermRef}
use Rattle.ly_tree.specs.declared.look.Look.{Look}
use Rattle.ly_tree.specs.declared.look.Look.TheVariants.{Leaf, Node, Nothing}

-- The look shows the term: nothing, a leaf of the terminal, or a node of the rule over this range of the children.
abbrev pub IsSeen : List Term → Look → Option Term → Type 0
IsSeen children Nothing t = t ≡ Some nothing
IsSeen children (Leaf terminal) t = (bytes : List ℕ) × (t ≡ Some (leaf terminal.0 bytes))
IsSeen children (Node s) t = t ≡ node_over children s.count s.rule.0 s.start

-- the forest whose nodes have only the first n children
abbrev pub cut_at : ℕ → Grown → Grown
cut_at n f = record { lists = f.lists; children = take n f.children }

-- These are the references to the children of nodes: each represents the child at its index, whose own children precede
-- it.
pub record AreChildren (f : Grown) (rs : List TermRef) : Type 0 where
  pub count : length rs ≡ length f.children
  pub stand : (k : ℕ) (r : TermRef) → slice_get rs k ≡ Some r
      → StandsFor (cut_at k f) r (slice_index_or f.children k nothing)
