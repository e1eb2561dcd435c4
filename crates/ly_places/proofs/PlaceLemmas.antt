-- A part stands within what it is a part of, and without its places a placed term is the term.
use Rattle.std.proofs.Common.{◌≡◌, ◌∙◌, ◌≤◌, ◌+◌, ℕ, zero, suc, List, [], ◌∷◌, ◌++◌, All, Option, Some, None, refl, ap}
use Rattle.std.proofs.Common.{arith, length, map, subst}
use Rattle.ly_base.specs.Lexed.{Token}
use Rattle.ly_base.specs.Shape.{Shape, nil, node, place}
use Rattle.ly_base.specs.Trees as derivation
use Rattle.ly_base.specs.Trees.{Tree, Trees, yield_of, yields_of}
use Rattle.ly_pack.proofs.CellLemmas.{All-left, All-right}
use Rattle.ly_spans.specs.Spans.{span_of}
use Rattle.ly_places.proofs.KeptLemmas.{joined_is}
use Rattle.ly_places.specs.Placed.{Placed, PlacedTerms, all_forgotten, at_place, at_places, end_or}
use Rattle.ly_places.specs.Placed.{extent_or, forgotten, joined, made, more, none, nothing, placed, placed_all}
use Rattle.ly_places.specs.Placed.{start_or, tokens_extent, tokens_extents, where_of}
use Rattle.ly_places.specs.PlacedLaws.{AreNestedIn, FollowFrom, IsNested, IsOfText, IsInside, PartsAreNested}
use Rattle.ly_places.specs.PlacedLaws.{PlacesAreForgotten}
use Rattle.ly_places.specs.Private.Kept.{all_joined}
use Rattle.ly_spans.specs.declared.span.Span.{Span}
use Rattle.ly_tree.specs.Term as term
use Rattle.ly_tree.specs.Term.{build, builds}

-- the tokens of a tree follow one another from a byte on
abbrev mutual
  Follow : ℕ → Tree → Type 0
  Follow last (derivation.leaf t) = last ≤ t.at
  Follow last (derivation.node p ts) = AllFollow last ts

  AllFollow : ℕ → Trees → Type 0
  AllFollow last derivation.none = Unit {0}
  AllFollow last (derivation.more t ts) = Follow last t × AllFollow (end_or last (tokens_extent t)) ts

pub end_behind_one : (last : ℕ) (e : Span) (o : Option Span) → end_or e.end o ≡ end_or last (joined (Some e) o)
end_behind_one last e None = refl
end_behind_one last e (Some x) = refl

-- those in front, and those behind them
follow_parts : (last : ℕ) (xs ys : List (Token ℕ)) → FollowFrom last (xs ++ ys)
    → FollowFrom last xs × FollowFrom (end_or last (all_joined (map span_of xs))) ys
follow_parts last [] ys f = (tt, f)
follow_parts last (x ∷ xs) ys f =
    let rest = follow_parts (x.at + length x.bytes) xs ys f.1 in (
      (f.0, rest.0),
      subst (λ n. FollowFrom n ys) (end_behind_one last (span_of x) (all_joined (map span_of xs))) rest.1,
    )

mutual
  follows : (d : Tree) (last : ℕ) → FollowFrom last (yield_of d) → Follow last d
  follows (derivation.leaf t) last f = f.0
  follows (derivation.node p ts) last f = all_follow ts last f

  all_follow : (ts : Trees) (last : ℕ) → FollowFrom last (yields_of ts) → AllFollow last ts
  all_follow derivation.none last f = tt
  all_follow (derivation.more t ts) last f =
      let both = follow_parts last (yield_of t) (yields_of ts) f in (
        follows t last both.0,
        all_follow ts (end_or last (tokens_extent t))
            (subst (λ o. FollowFrom (end_or last o) (yields_of ts)) (joined_is t) both.1),
      )

-- what is above `last`, and isn't turned around
abbrev Rises : ℕ → Option Span → Type 0
Rises last None = Unit {0}
Rises last (Some s) = (last ≤ s.start) × (s.start ≤ s.end)

abbrev Above : ℕ → Option Span → Type 0
Above floor None = Unit {0}
Above floor (Some s) = floor ≤ s.start

abbrev Below : Span → Option Span → Type 0
Below s None = Unit {0}
Below s (Some x) = x.end ≤ s.end

rises_joined : (last : ℕ) (a b : Option Span) → Rises last a → Rises (end_or last a) b → Rises last (joined a b)
rises_joined last None b f g = g
rises_joined last (Some a) None f g = f
rises_joined last (Some a) (Some b) f g = (f.0, omega (arith, f.1, g.0, g.1))

mutual
  rises : (d : Tree) (last : ℕ) → Follow last d → Rises last (tokens_extent d)
  rises (derivation.leaf t) last f = (f, omega arith)
  rises (derivation.node p ts) last f = rises_all ts last f

  rises_all : (ts : Trees) (last : ℕ) → AllFollow last ts → Rises last (tokens_extents ts)
  rises_all derivation.none last f = tt
  rises_all (derivation.more t ts) last f = rises_joined last (tokens_extent t) (tokens_extents ts) (rises t last f.0)
      (rises_all ts (end_or last (tokens_extent t)) f.1)

above_left : (floor : ℕ) (a b : Option Span) → Above floor (joined a b) → Above floor a
above_left floor None b f = tt
above_left floor (Some a) None f = f
above_left floor (Some a) (Some b) f = f

next_all : (a : Option Span) (last floor : ℕ) (ts : Trees) → (AllFollow last ts → Above floor (tokens_extents ts)
    → AllFollow floor ts) → AllFollow (end_or last a) ts → Above floor (joined a (tokens_extents ts))
    → AllFollow (end_or floor a) ts
next_all None last floor ts go f h = go f h
next_all (Some a) last floor ts go f h = f

mutual
  raise : (d : Tree) (last floor : ℕ) → Follow last d → Above floor (tokens_extent d) → Follow floor d
  raise (derivation.leaf t) last floor f h = h
  raise (derivation.node p ts) last floor f h = raise_all ts last floor f h

  raise_all : (ts : Trees) (last floor : ℕ) → AllFollow last ts → Above floor (tokens_extents ts)
      → AllFollow floor ts
  raise_all derivation.none last floor f h = tt
  raise_all (derivation.more t ts) last floor f h = (
    raise t last floor f.0 (above_left floor (tokens_extent t) (tokens_extents ts) h),
    next_all (tokens_extent t) last floor ts (λ g k. raise_all ts last floor g k) f.1 h,
  )

below_left : (s : Span) (last : ℕ) (a b : Option Span) → Rises (end_or last a) b → Below s (joined a b) → Below s a
below_left s last None b f h = tt
below_left s last (Some a) None f h = h
below_left s last (Some a) (Some b) f h = omega (arith, f.0, f.1, h)

below_right : (s : Span) (a b : Option Span) → Below s (joined a b) → Below s b
below_right s None b h = h
below_right s (Some a) None h = tt
below_right s (Some a) (Some b) h = h

-- where a tree stands is within an extent
own_within : (s : Span) (last : ℕ) (o : Option Span) → Rises last o → s.start ≤ last → last ≤ s.end → Below s o
    → IsInside (extent_or last o) s
own_within s last None f low high h = record { start = low; turned = omega arith; end = high }
own_within s last (Some x) f low high h = record { start = omega (arith, f.0, low); turned = f.1; end = h }

next_low : (s : Span) (last : ℕ) (o : Option Span) → Rises last o → s.start ≤ last → s.start ≤ end_or last o
next_low s last None f low = low
next_low s last (Some x) f low = omega (arith, f.0, f.1, low)

next_high : (s : Span) (last : ℕ) (o : Option Span) → last ≤ s.end → Below s o → end_or last o ≤ s.end
next_high s last None high h = high
next_high s last (Some x) high h = h

within_both : {a b c : Span} → IsInside a b → IsInside b c → IsInside a c
within_both f g = record {
  start = omega (arith, f.start, g.start);
  turned = f.turned;
  end = omega (arith, f.end, g.end);
}

-- each is within the extent, and its own parts are within it
abbrev AllGood : Span → PlacedTerms → Type 0
AllGood s none = Unit {0}
AllGood s (more k ks) = (IsInside (where_of k) s × IsNested k) × AllGood s ks

abbrev IsGood : Span → Placed → Type 0
IsGood s k = IsInside (where_of k) s × IsNested k

at_place_good : (s : Span) (ks : PlacedTerms) (i : ℕ) (other : Placed) → AllGood s ks → IsGood s other
    → IsGood s (at_place ks i other)
at_place_good s none i other f g = g
at_place_good s (more k ks) zero other f g = g
at_place_good s (more k ks) (suc zero) other f g = f.0
at_place_good s (more k ks) (suc (suc i)) other f g = at_place_good s ks (suc i) other f.1 g

at_places_good : (s : Span) (ks : PlacedTerms) (is : List ℕ) (other : Placed) → AllGood s ks → IsGood s other
    → AreNestedIn s (at_places ks is other)
at_places_good s ks [] other f g = tt
at_places_good s ks (i ∷ is) other f g =
    let one = at_place_good s ks i other f g in
    (one.0, one.1, at_places_good s ks is other f g)

made_good : (p : ℕ) (shape : Shape) (s : Span) (ks : PlacedTerms) → s.start ≤ s.end → AllGood s ks
    → IsGood s (made p shape s ks)
made_good p nil s ks turned f = (record { start = omega arith; turned = turned; end = omega arith }, tt)
made_good p (place i) s ks turned f = at_place_good s ks i (nothing s) f
    (record { start = omega arith; turned = turned; end = omega arith }, tt)
made_good p (node name is) s ks turned f =
    let own : IsInside s s = record { start = omega arith; turned = turned; end = omega arith } in
    (own, at_places_good s ks is (nothing s) f (own, tt))

-- what holds of a tree's own extent, from where its parts begin at the earliest
record Frame (last : ℕ) (o : Option Span) : Type 0 where
  low : (extent_or last o).start ≤ start_or last o
  high : start_or last o ≤ (extent_or last o).end
  above : Above (start_or last o) o
  below : Below (extent_or last o) o
  turned : (extent_or last o).start ≤ (extent_or last o).end

frame : (last : ℕ) (o : Option Span) → Rises last o → Frame last o
frame last None f = record { low = omega arith; high = omega arith; above = tt; below = tt; turned = omega arith }
frame last (Some s) f = record {
  low = omega arith;
  high = f.1;
  above = omega arith;
  below = omega arith;
  turned = f.1;
}

module _ (shape : ℕ → Shape) where
  mutual
    good : (d : Tree) (last : ℕ) → Follow last d → IsGood (extent_or last (tokens_extent d)) (placed shape last d)
    good (derivation.leaf t) last f = (record { start = omega arith; turned = omega arith; end = omega arith }, tt)
    good (derivation.node p ts) last f =
        let o = tokens_extents ts in
        let h = frame last o (rises_all ts last f) in
        made_good p (shape p) (extent_or last o) (placed_all shape (start_or last o) ts) h.turned
        (good_all ts (start_or last o) (extent_or last o) (raise_all ts last (start_or last o) f h.above) h.low h.high
        h.below)

    good_all : (ts : Trees) (last : ℕ) (s : Span) → AllFollow last ts → s.start ≤ last → last ≤ s.end
        → Below s (tokens_extents ts) → AllGood s (placed_all shape last ts)
    good_all derivation.none last s f low high h = tt
    good_all (derivation.more t ts) last s f low high h =
        let own = rises t last f.0 in
        let rest = rises_all ts (end_or last (tokens_extent t)) f.1 in
        let here = below_left s last (tokens_extent t) (tokens_extents ts) rest h in
        let one = good t last f.0 in (
          (within_both one.0 (own_within s last (tokens_extent t) own low high here), one.1),
          good_all ts (end_or last (tokens_extent t)) s f.1 (next_low s last (tokens_extent t) own low)
              (next_high s last (tokens_extent t) high here) (below_right s (tokens_extent t) (tokens_extents ts) h),
        )

module _ (text : List ℕ) (shape : ℕ → Shape) where
  forgets_at : (ks : PlacedTerms) (i : ℕ) (e : Span)
      → forgotten text (at_place ks i (nothing e)) ≡ term.at_place (all_forgotten text ks) i
  forgets_at none i e = refl
  forgets_at (more k ks) zero e = refl
  forgets_at (more k ks) (suc zero) e = refl
  forgets_at (more k ks) (suc (suc i)) e = forgets_at ks (suc i) e

  forgets_places : (ks : PlacedTerms) (is : List ℕ) (e : Span)
      → all_forgotten text (at_places ks is (nothing e)) ≡ term.at_places (all_forgotten text ks) is
  forgets_places ks [] e = refl
  forgets_places ks (i ∷ is) e = λ k. term.more (forgets_at ks i e k) (forgets_places ks is e k)

  forgets_made : (p : ℕ) (s : Shape) (e : Span) (ks : PlacedTerms)
      → forgotten text (made p s e ks) ≡ term.made p s (all_forgotten text ks)
  forgets_made p nil e ks = refl
  forgets_made p (place i) e ks = forgets_at ks i e
  forgets_made p (node name is) e ks = ap (term.built p) (forgets_places ks is e)

  mutual
    forgets : (d : Tree) (last : ℕ) → All (IsOfText text) (yield_of d)
        → forgotten text (placed shape last d) ≡ build shape d
    forgets (derivation.leaf t) last h = ap (term.leaf t.terminal) (h 0 t (omega arith))
    forgets (derivation.node p ts) last h =
        forgets_made p (shape p) (extent_or last (tokens_extents ts))
        (placed_all shape (start_or last (tokens_extents ts)) ts)
        ∙ ap (term.made p (shape p)) (forgets_all ts (start_or last (tokens_extents ts)) h)

    forgets_all : (ts : Trees) (last : ℕ) → All (IsOfText text) (yields_of ts)
        → all_forgotten text (placed_all shape last ts) ≡ builds shape ts
    forgets_all derivation.none last h = refl
    forgets_all (derivation.more t ts) last h = λ k. term.more
        (forgets t last (All-left (IsOfText text) (yield_of t) (yields_of ts) h) k)
        (forgets_all ts (end_or last (tokens_extent t)) (All-right (IsOfText text) (yield_of t) (yields_of ts) h) k)

-- a term stands within what its tokens do, or where it is to be without any
pub placed_good : (shape : ℕ → Shape) (last : ℕ) (d : Tree) → FollowFrom last (yield_of d)
    → IsInside (where_of (placed shape last d)) (extent_or last (tokens_extent d)) × IsNested (placed shape last d)
placed_good shape last d f = good shape d last (follows d last f)

pub nested : PartsAreNested
nested shape last d f = (placed_good shape last d f).1

pub forget : PlacesAreForgotten
forget text shape last d h = forgets text shape d last h
