-- How a forest keeps its lists and the children of its nodes.
use Rattle.std.specs.Prelude.{ℕ, List, [], ◌∷◌, ◌++◌, map, unwrap_or, All, IsSome}
use Rattle.ly_base.specs.declared.numbers.Sym.{Sym}
use Rattle.ly_tree.specs.Forest.{term_of, Grown, Lists}
use Rattle.ly_tree.specs.Term.{Term, leaf, nothing}
use Rattle.ly_tree.specs.declared.forest.TermRef.{TermRef}
use Rattle.ly_tree.specs.declared.node_span.NodeSpan.{NodeSpan}

-- the leaf of a terminal and a text
abbrev pub long_leaf : Sym × List ℕ → Term
long_leaf l = leaf l.0.0 l.1

-- the lists of the texts of short leaves, of the terminals and texts of the others, and of long nodes
abbrev pub lists_from : List ℕ → List (Sym × List ℕ) → List NodeSpan → Lists
lists_from texts long spans = record { texts = texts; long_leaves = map long_leaf long; long_nodes = spans }

-- the term of a child, by the terms before it
abbrev pub child_term : Lists → List Term → TermRef → Term
child_term lists done r = unwrap_or (term_of (record { lists = lists; children = done }) r) nothing

-- the terms so far, and then those of these children
abbrev pub terms_from : Lists → List Term → List TermRef → List Term
terms_from lists done [] = done
terms_from lists done (r ∷ rs) = terms_from lists (done ++ child_term lists done r ∷ []) rs

-- the lists, and the terms of children
abbrev pub grown : Lists → List TermRef → Grown
grown lists rs = record { lists = lists; children = terms_from lists [] rs }

-- each of these references stands for a term
abbrev pub AllKnown : Grown → List TermRef → Type 0
AllKnown f rs = All (λ r. IsSome (term_of f r)) rs

-- each of these children stands for a term, by those before it
abbrev pub AreKnown : Lists → List Term → List TermRef → Type 0
AreKnown lists done [] = Unit {0}
AreKnown lists done (r ∷ rs) = IsSome (term_of (record { lists = lists; children = done }) r)
    × AreKnown lists (done ++ child_term lists done r ∷ []) rs
