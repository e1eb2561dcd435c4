-- The measure of a term says how many parts it has.
use Rattle.std.proofs.Common.{◌≡◌, ℕ, zero, suc, List, [], ◌∷◌, arith, drop, length, length-append}
use Rattle.std.proofs.Common.{refl}
use Rattle.ly_base.specs.Shape.{Shape, nil, node, place}
use Rattle.ly_places.specs.Parts.{all_parts, parts_of}
use Rattle.ly_places.specs.Placed.{PlacedTerms, at_place, at_places, made, nothing}
use Rattle.ly_places.specs.Private.Kept.{first_extent, placed_term, placed_terms}
use Rattle.ly_places.specs.Private.Measured.{measure_of, measures_of, parts_among, parts_at, parts_made}
use Rattle.ly_spans.specs.declared.span.Span.{Span}
use Rattle.ly_places.specs.declared.measure.Measure.{Measure}
use Rattle.ly_tree.specs.Term.{Term, Terms, built, leaf, more, none}
use Rattle.ly_tree.specs.Term as term

-- the measures are those of terms
abbrev Counts : List Measure → PlacedTerms → Type 0
Counts ms ks = (i : ℕ) (e : Span) → parts_at ms i ≡ length (parts_of (at_place ks i (nothing e)))

among : (ms : List Measure) (ks : PlacedTerms) (is : List ℕ) (e : Span) → Counts ms ks
    → parts_among ms is ≡ length (all_parts (at_places ks is (nothing e)))
among ms ks [] e h = refl
among ms ks (i ∷ is) e h =
    let here = parts_of (at_place ks i (nothing e)) in
    let rest = all_parts (at_places ks is (nothing e)) in
    omega (arith, h i e, among ms ks is e h, length-append here rest)

made_size : (shape : Shape) (ms : List Measure) (ks : PlacedTerms) (p : ℕ) (e : Span) → Counts ms ks
    → parts_made shape ms ≡ length (parts_of (made p shape e ks))
made_size nil ms ks p e h = refl
made_size (place i) ms ks p e h = h i e
made_size (node name is) ms ks p e h = omega (arith, among ms ks is e h)

module _ (shape : ℕ → Shape) where
  mutual
    pub size : (t : Term) (last : ℕ) (es : List Span)
        → (measure_of shape t).parts ≡ length (parts_of (placed_term shape last es t))
    size term.nothing last es = refl
    size (leaf t bytes) last es = refl
    size (built p ts) last es =
        let e = first_extent last (measure_of shape (built p ts)).tokens es in
        made_size (shape p) (measures_of shape ts) (placed_terms shape e.start es ts) p e
        (λ i d. sizes ts e.start es i d)

    sizes : (ts : Terms) (last : ℕ) (es : List Span) (i : ℕ) (e : Span)
        → parts_at (measures_of shape ts) i ≡ length (parts_of (at_place (placed_terms shape last es ts) i (nothing e)))
    sizes none last es i e = refl
    sizes (more t ts) last es zero e = refl
    sizes (more t ts) last es (suc zero) e = size t last es
    sizes (more t ts) last es (suc (suc i)) e =
        sizes ts (first_extent last (measure_of shape t).tokens es).end (drop (measure_of shape t).tokens es) (suc i) e
