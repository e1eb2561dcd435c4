-- Terms with the spans of their parts in a text, built from derivations whose leaves are tokens.
use Rattle.std.specs.Prelude.{ℕ, zero, suc, ◌+◌, List, [], ◌∷◌, Option, Some, None, length}
use Rattle.ly_base.specs.Lexed.{Token}
use Rattle.ly_base.specs.Shape.{Shape, nil, node, place}
use Rattle.ly_base.specs.Trees as derivation
use Rattle.ly_base.specs.Trees.{Tree, Trees}
use Rattle.ly_spans.specs.Spans.{bytes_at, empty_at, span_of}
use Rattle.ly_spans.specs.declared.span.Span.{Span}
use Rattle.ly_tree.specs.Term as term
use Rattle.ly_tree.specs.Term.{Term, Terms}

mutual
  -- Nothing; a leaf, by its terminal; or a rule's constructor over terms. Each has a span of the text.
  pub data Placed : Type 0 where
    nothing : Span → Placed
    leaf : ℕ → Span → Placed
    built : ℕ → Span → PlacedTerms → Placed

  -- such terms one after another
  pub data PlacedTerms : Type 0 where
    none : PlacedTerms
    more : Placed → PlacedTerms → PlacedTerms

-- the end of the last of some tokens, or the start of the text
abbrev pub end_behind : List (Token ℕ) → ℕ
end_behind [] = 0
end_behind (t ∷ []) = t.at + length t.bytes
end_behind (t ∷ u ∷ ts) = end_behind (u ∷ ts)

-- from the start of the first span to the end of the last
abbrev pub joined : Option Span → Option Span → Option Span
joined None b = b
joined (Some a) None = Some a
joined (Some a) (Some b) = Some (record { start = a.start; end = b.end })

abbrev mutual
  -- from a tree's first token to its last, if it has any
  pub tokens_extent : Tree → Option Span
  tokens_extent (derivation.leaf t) = Some (span_of t)
  tokens_extent (derivation.node p ts) = tokens_extents ts

  -- from the first token of trees one after another to the last
  pub tokens_extents : Trees → Option Span
  tokens_extents derivation.none = None
  tokens_extents (derivation.more t ts) = joined (tokens_extent t) (tokens_extents ts)

-- the end of the last of some tokens, or else of those before them
abbrev pub end_or : ℕ → Option Span → ℕ
end_or last None = last
end_or last (Some e) = e.end

-- the span of tokens, or else an empty one at the end of those before them
abbrev pub extent_or : ℕ → Option Span → Span
extent_or last None = empty_at last
extent_or last (Some e) = e

-- The earliest position for the parts of a tree: the start of its first token, or else the end of those before it.
abbrev pub start_or : ℕ → Option Span → ℕ
start_or last None = last
start_or last (Some e) = e.start

-- the term at a place, counted from 1, or else another one
abbrev pub at_place : PlacedTerms → ℕ → Placed → Placed
at_place none i other = other
at_place (more t ts) zero other = other
at_place (more t ts) (suc zero) other = t
at_place (more t ts) (suc (suc i)) other = at_place ts (suc i) other

-- the terms at these places
abbrev pub at_places : PlacedTerms → List ℕ → Placed → PlacedTerms
at_places ts [] other = none
at_places ts (i ∷ is) other = more (at_place ts i other) (at_places ts is other)

-- the term that a rule builds from the terms of its body, whose tokens have this span
abbrev pub made : ℕ → Shape → Span → PlacedTerms → Placed
made p nil e ts = nothing e
made p (place i) e ts = at_place ts i (nothing e)
made p (node name is) e ts = built p e (at_places ts is (nothing e))

-- The term of a derivation tree by these shapes, with its spans. The offset is the end of the last token before it, or
-- the start of the innermost tree around it that has tokens, if that is later: a tree without tokens is there.
abbrev mutual
  pub placed : (ℕ → Shape) → ℕ → Tree → Placed
  placed shape last (derivation.leaf t) = leaf t.terminal (span_of t)
  placed shape last (derivation.node p ts) = made p (shape p) (extent_or last (tokens_extents ts))
      (placed_all shape (start_or last (tokens_extents ts)) ts)

  pub placed_all : (ℕ → Shape) → ℕ → Trees → PlacedTerms
  placed_all shape last derivation.none = none
  placed_all shape last (derivation.more t ts) = more (placed shape last t)
      (placed_all shape (end_or last (tokens_extent t)) ts)

abbrev mutual
  -- the term without its spans
  pub forgotten : List ℕ → Placed → Term
  forgotten text (nothing e) = term.nothing
  forgotten text (leaf t e) = term.leaf t (bytes_at text e)
  forgotten text (built p e ts) = term.built p (all_forgotten text ts)

  pub all_forgotten : List ℕ → PlacedTerms → Terms
  all_forgotten text none = term.none
  all_forgotten text (more t ts) = term.more (forgotten text t) (all_forgotten text ts)

-- the span of a term
abbrev pub where_of : Placed → Span
where_of (nothing e) = e
where_of (leaf t e) = e
where_of (built p e ts) = e
