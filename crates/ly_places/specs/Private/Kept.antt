-- What rules make of terms whose nodes have all of their bodies, where the tokens of their leaves stand.
use Rattle.std.specs.Prelude.{ℕ, suc, List, [], ◌∷◌, Option, None, Some, drop, take}
use Rattle.ly_base.specs.Shape.{Shape}
use Rattle.ly_pack.specs.Machine.{IsShapeFor}
use Rattle.ly_places.specs.Placed.{Placed, PlacedTerms, extent_or, joined, leaf, made, more, none, nothing}
use Rattle.ly_places.specs.Private.Measured.{measure_of}
use Rattle.ly_spans.specs.declared.span.Span.{Span}
use Rattle.ly_tree.specs.Term as term
use Rattle.ly_tree.specs.Term.{Term, Terms}

-- from the first of some tokens to the last, if there are any
abbrev pub all_joined : List Span → Option Span
all_joined [] = None
all_joined (e ∷ es) = joined (Some e) (all_joined es)

-- where the first n tokens stand, or else no bytes there
abbrev pub first_extent : ℕ → ℕ → List Span → Span
first_extent last n es = extent_or last (all_joined (take n es))

-- The term that rules make of one that has all of their bodies. The extents are those of its tokens and of others
-- behind them; without tokens it stands at the byte.
abbrev mutual
  pub placed_term : (ℕ → Shape) → ℕ → List Span → Term → Placed
  placed_term shape last es term.nothing = nothing (first_extent last 0 es)
  placed_term shape last es (term.leaf t bytes) = leaf t (first_extent last 1 es)
  placed_term shape last es (term.built p ts) =
      made p (shape p) (first_extent last (measure_of shape (term.built p ts)).tokens es)
      (placed_terms shape (first_extent last (measure_of shape (term.built p ts)).tokens es).start es ts)

  pub placed_terms : (ℕ → Shape) → ℕ → List Span → Terms → PlacedTerms
  placed_terms shape last es term.none = none
  placed_terms shape last es (term.more t ts) = more (placed_term shape last es t)
      (placed_terms shape (first_extent last (measure_of shape t).tokens es).end
      (drop (measure_of shape t).tokens es) ts)

-- how many terms stand one after another
abbrev pub terms_count : Terms → ℕ
terms_count term.none = 0
terms_count (term.more t ts) = suc (terms_count ts)

-- each node has a child at each place of its rule
abbrev mutual
  pub IsWhole : (ℕ → Shape) → Term → Type 0
  IsWhole shape term.nothing = Unit {0}
  IsWhole shape (term.leaf t bytes) = Unit {0}
  IsWhole shape (term.built p ts) = IsShapeFor (terms_count ts) (shape p) × AreWhole shape ts

  pub AreWhole : (ℕ → Shape) → Terms → Type 0
  AreWhole shape term.none = Unit {0}
  AreWhole shape (term.more t ts) = IsWhole shape t × AreWhole shape ts
