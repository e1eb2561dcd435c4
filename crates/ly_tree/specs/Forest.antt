-- The content of a forest: the texts of leaves and the children of nodes, each of which is a leaf or a node.
use Rattle.std.specs.Prelude.{◌≡◌, ℕ, zero, suc, ◌+◌, ◌*◌, List, [], ◌∷◌, Option, Some, None, slice_get, option_map}
use Rattle.std.specs.Prelude.{unwrap_or}
use Rattle.ly_tree.specs.Term.{Term, Terms, nothing, leaf, built, none, more}
use Rattle.ly_tree.specs.declared.forest.TermRef.{TermRef}
use Rattle.ly_tree.specs.declared.forest.TermRef.TheVariants.{Nothing, ShortLeaf, LongLeaf, Node, LongNode}
use Rattle.ly_tree.specs.declared.node_span.NodeSpan.{NodeSpan}

-- The texts of short leaves, one after another; the other leaves; and for each long node its rule and the range of its
-- children.
pub record Lists : Type 0 where
  pub texts : List ℕ
  pub long_leaves : List Term
  pub long_nodes : List NodeSpan

-- The lists, and the terms of the children of nodes, one after another.
pub record Grown : Type 0 where
  pub lists : Lists
  pub children : List Term

-- no leaf and no long node
abbrev pub no_lists : Lists
no_lists = record { texts = []; long_leaves = []; long_nodes = [] }

-- neither leaf nor node
abbrev pub no_terms : Grown
no_terms = record { lists = no_lists; children = [] }

-- the first n elements, if there are as many
abbrev pub first : {A : Type 0} → ℕ → List A → Option (List A)
first zero xs = Some []
first (suc n) [] = None
first (suc n) (x ∷ xs) = option_map (λ front. x ∷ front) (first n xs)

-- n elements from an index on, if there are as many
abbrev pub piece : {A : Type 0} → ℕ → ℕ → List A → Option (List A)
piece zero n xs = first n xs
piece (suc start) n [] = None
piece (suc start) n (x ∷ xs) = piece start n xs

-- the terms of a list
abbrev pub all_of : List Term → Terms
all_of [] = none
all_of (t ∷ ts) = more t (all_of ts)

-- the number of a long leaf or node, from its two parts
abbrev pub number_of : ℕ → ℕ → ℕ
number_of high low = high * 4294967296 + low

-- the node of a rule over this many children from an index on, if they exist
abbrev pub node_over : List Term → ℕ → ℕ → ℕ → Option Term
node_over children n rule start = option_map (λ ts. built rule (all_of ts)) (piece start n children)

-- the node of a span, if there is one
abbrev pub node_by : List Term → Option NodeSpan → Option Term
node_by children None = None
node_by children (Some s) = node_over children s.count s.rule.0 s.start

-- the term of a reference, if there is one
abbrev pub term_of : Grown → TermRef → Option Term
term_of f Nothing = Some nothing
term_of f (ShortLeaf length terminal start) =
    option_map (λ text. leaf terminal text) (piece start length f.lists.texts)
term_of f (LongLeaf high low) = slice_get f.lists.long_leaves (number_of high low)
term_of f (Node n rule start) = node_over f.children n rule start
term_of f (LongNode high low) = node_by f.children (slice_get f.lists.long_nodes (number_of high low))

-- the terms of references
abbrev pub terms_of : Grown → List TermRef → Terms
terms_of f [] = none
terms_of f (r ∷ rs) = more (unwrap_or (term_of f r) nothing) (terms_of f rs)

-- the reference represents the term
abbrev pub StandsFor : Grown → TermRef → Term → Type 0
StandsFor f r t = term_of f r ≡ Some t

-- references represent terms, one by one
abbrev pub StandForAll : Grown → List TermRef → Terms → Type 0
StandForAll f [] none = Unit {0}
StandForAll f (r ∷ rs) (more t ts) = StandsFor f r t × StandForAll f rs ts
StandForAll f _ _ = ⊥

-- a reference that represents a term still represents it
abbrev pub Keeps : Grown → Grown → Type 0
Keeps f g = (r : TermRef) (t : Term) → StandsFor f r t → StandsFor g r t
