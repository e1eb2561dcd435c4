-- What rules that keep their bodies build of a derivation says where all of its parts stand.
use Rattle.std.proofs.Common.{◌≡◌, ◌∙◌, ℕ, zero, suc, ◌+◌, List, [], ◌∷◌, ◌++◌, All, None, Option, Some, ap}
use Rattle.std.proofs.Common.{append-nil, append_assoc, arith, drop, length, length-append, map, option_map, refl}
use Rattle.std.proofs.Common.{subst, sym, take, unwrap_or}
use Rattle.std.proofs.lemmas.List.{drop_at, length-map, map-append, take_at}
use Rattle.std.proofs.lemmas.Option.{slice_get-map}
use Rattle.std.specs.Prelude.{IsSome, codes}
use Rattle.ly_base.proofs.ListLemmas.{All-at}
use Rattle.ly_base.specs.Lexed.{Token}
use Rattle.ly_base.specs.Shape as shape
use Rattle.ly_base.specs.Shape.{Shape, nil, place}
use Rattle.ly_base.specs.Trees.{Tree, Trees, leaf, more, node, none, yield_of, yields_of}
use Rattle.ly_pack.specs.Machine.{TableRule, IsShapeFor}
use Rattle.ly_spans.specs.Spans.{span_of}
use Rattle.ly_places.proofs.SpanLemmas.{or_end, or_start}
use Rattle.ly_places.specs.Derived.{IsDerived, IsShaped}
use Rattle.ly_places.specs.Placed as placed
use Rattle.ly_places.specs.Placed.{end_behind, end_or, extent_or, joined, made, placed_all, start_or}
use Rattle.ly_places.specs.Placed.{tokens_extent, tokens_extents}
use Rattle.ly_places.specs.Private.Kept.{all_joined, first_extent, placed_term, placed_terms, terms_count, AreWhole}
use Rattle.ly_places.specs.Private.Kept.{IsWhole}
use Rattle.ly_places.specs.Private.Measured.{measure_of, measures_of, tokens_among}
use Rattle.ly_places.specs.Private.Waiting.{last_end}
use Rattle.ly_parse.specs.Deriving.{shape_of_rule}
use Rattle.ly_places.specs.Shapes.{count_of, keeping, keeping_rule, places_behind, AllFit, Fits}
use Rattle.ly_places.specs.Shapes.{FitsRule}
use Rattle.ly_spans.specs.declared.span.Span.{Span}
use Rattle.ly_tree.proofs.StandLemmas.{stands_known, stands_unwrapped}
use Rattle.ly_tree.specs.Forest.{term_of, Grown}
use Rattle.ly_tree.specs.Private.Printing.{term_at}
use Rattle.ly_tree.specs.Term as term
use Rattle.ly_tree.specs.Term.{Term, Terms, at_place, at_places, build, builds}
use Rattle.ly_tree.specs.declared.forest.TermRef.{TermRef}

-- the extent of some tokens is that of those before and those behind
joined_twice : (e : Span) (a b : Option Span) → joined (Some e) (joined a b) ≡ joined (joined (Some e) a) b
joined_twice e None b = refl
joined_twice e (Some a) None = refl
joined_twice e (Some a) (Some b) = refl

joined-append : (xs ys : List Span) → all_joined (xs ++ ys) ≡ joined (all_joined xs) (all_joined ys)
joined-append [] ys = refl
joined-append (x ∷ xs) ys = ap (joined (Some x)) (joined-append xs ys) ∙ joined_twice x (all_joined xs) (all_joined ys)

mutual
  -- the tokens of a tree stand where it does
  pub joined_is : (d : Tree) → all_joined (map span_of (yield_of d)) ≡ tokens_extent d
  joined_is (leaf t) = refl
  joined_is (node p ts) = all_joined_is ts

  pub all_joined_is : (ts : Trees) → all_joined (map span_of (yields_of ts)) ≡ tokens_extents ts
  all_joined_is none = refl
  all_joined_is (more t ts) =
      ap all_joined (map-append span_of (yield_of t) (yields_of ts))
      ∙ (joined-append (map span_of (yield_of t)) (map span_of (yields_of ts))
      ∙ λ i. joined (joined_is t i) (all_joined_is ts i))

-- where the first tokens stand, of which there are as many as that
first_are : (last n : ℕ) (xs es : List Span) (o : Option Span) → n ≡ length xs → all_joined xs ≡ o
    → first_extent last n (xs ++ es) ≡ extent_or last o
first_are last n xs es o count is =
    ap (λ ys. extent_or last (all_joined ys)) (take_at xs es n (sym count)) ∙ ap (extent_or last) is

-- all places of a body, in their order
picked : (us all : Terms) (b : ℕ) → ((i : ℕ) → at_place all (suc (b + i)) ≡ at_place us (suc i))
    → at_places all (places_behind b (terms_count us)) ≡ us
picked term.none all b h = refl
picked (term.more u us) all b h =
    let first : at_place all (suc b) ≡ u = ap (λ k. at_place all (suc k)) (omega arith) ∙ h 0 in
    ap (λ t. term.more t (at_places all (places_behind (suc b) (terms_count us)))) first
    ∙ ap (term.more u)
    (picked us all (suc b) (λ i. ap (λ k. at_place all (suc k)) (next b i) ∙ h (suc i)))
  where
    next : (b i : ℕ) → suc b + i ≡ b + suc i
    next b i = omega arith

all_picked : (us : Terms) (n : ℕ) → terms_count us ≡ n → at_places us (places_behind 0 n) ≡ us
all_picked us n count =
    ap (λ k. at_places us (places_behind 0 k)) (sym count)
    ∙ picked us us 0 (λ i. ap (λ k. at_place us (suc k)) (none_before i))
  where
    none_before : (i : ℕ) → 0 + i ≡ i
    none_before i = omega arith

counts : (sh : ℕ → Shape) (ts : Trees) → terms_count (builds sh ts) ≡ count_of ts
counts sh none = refl
counts sh (more t ts) = ap suc (counts sh ts)

-- a placed term, whose tokens say where it begins
again : (sh : ℕ → Shape) (p last : ℕ) (o : Option Span) (ts : Trees)
    → made p (sh p) (extent_or last o) (placed_all sh (start_or last o) ts)
    ≡ made p (sh p) (extent_or (start_or last o) o) (placed_all sh (start_or (start_or last o) o) ts)
again sh p last None ts = refl
again sh p last (Some e) ts = refl

begins : (sh : ℕ → Shape) (last : ℕ) (d : Tree)
    → placed.placed sh last d ≡ placed.placed sh (start_or last (tokens_extent d)) d
begins sh last (leaf t) = refl
begins sh last (node p ts) = again sh p last (tokens_extents ts) ts

joined-none : (o : Option Span) → joined o None ≡ o
joined-none None = refl
joined-none (Some e) = refl

-- the term that is kept of a tree, and what rules make of it
pub record IsKept (sh keep : ℕ → Shape) (d : Tree) : Type 0 where
  pub tokens : (measure_of sh (build keep d)).tokens ≡ length (yield_of d)
  pub whole : IsWhole sh (build keep d)
  pub placed : (last : ℕ) (es : List Span)
      → placed_term sh last (map span_of (yield_of d) ++ es) (build keep d) ≡ placed.placed sh last d

record AreKept (sh keep : ℕ → Shape) (ts : Trees) : Type 0 where
  tokens : tokens_among (measures_of sh (builds keep ts)) ≡ length (yields_of ts)
  whole : AreWhole sh (builds keep ts)
  placed : (last : ℕ) (es : List Span)
      → placed_terms sh last (map span_of (yields_of ts) ++ es) (builds keep ts) ≡ placed_all sh last ts

-- a node that has its whole body
whole_kept : (sh keep : ℕ → Shape) (p n : ℕ) (ts : Trees) → AreKept sh keep ts → IsShapeFor n (sh p) → count_of ts ≡ n
    → keep p ≡ shape.node (codes "kept") (places_behind 0 n) → IsKept sh keep (node p ts)
whole_kept sh keep p n ts kids fits count is =
    let us = builds keep ts in
    let built : build keep (node p ts) ≡ term.built p us
    = ap (λ k. term.made p k us) is ∙ ap (term.built p) (all_picked us n (counts keep ts ∙ count)) in record {
      tokens = ap (λ u. (measure_of sh u).tokens) built ∙ kids.tokens;
      whole = subst (IsWhole sh) (sym built)
          (subst (λ k. IsShapeFor k (sh p)) (sym (counts keep ts ∙ count)) fits, kids.whole);
      placed = λ last es.
          let xs = map span_of (yields_of ts) in
          let here : first_extent last (measure_of sh (term.built p us)).tokens (xs ++ es)
          ≡ extent_or last (tokens_extents ts)
          = first_are last _ xs es (tokens_extents ts)
          (kids.tokens ∙ sym (length-map (yields_of ts) span_of)) (all_joined_is ts) in
          ap (placed_term sh last (xs ++ es)) built
          ∙ (ap (λ e. made p (sh p) e (placed_terms sh e.start (xs ++ es) us)) here
          ∙ (ap (λ s. made p (sh p) (extent_or last (tokens_extents ts)) (placed_terms sh s (xs ++ es) us))
          (or_start last (tokens_extents ts))
          ∙ ap (made p (sh p) (extent_or last (tokens_extents ts)))
          (kids.placed (start_or last (tokens_extents ts)) es)));
    }

-- a node that hands on its only child
passed_kept : (sh keep : ℕ → Shape) (p : ℕ) (t : Tree) → IsKept sh keep t → sh p ≡ place 1 → keep p ≡ place 1
    → IsKept sh keep (node p (more t none))
passed_kept sh keep p t kid is kept =
    let built : build keep (node p (more t none)) ≡ build keep t
    = ap (λ k. term.made p k (term.more (build keep t) term.none)) kept in
    let alone : yields_of (more t none) ≡ yield_of t = append-nil (yield_of t) in record {
      tokens = ap (λ u. (measure_of sh u).tokens) built ∙ (kid.tokens ∙ sym (ap length alone));
      whole = subst (IsWhole sh) (sym built) kid.whole;
      placed = λ last es.
          let o = joined (tokens_extent t) None in
          (λ i. placed_term sh last (map span_of (alone i) ++ es) (built i))
          ∙ (kid.placed last es
          ∙ (begins sh last t
          ∙ (ap (λ e. placed.placed sh (start_or last e) t) (sym (joined-none (tokens_extent t)))
          ∙ sym (ap (λ k. made p k (extent_or last o) (placed_all sh (start_or last o) (more t none))) is))));
    }

-- an empty node that makes nothing
nothing_kept : (sh keep : ℕ → Shape) (p : ℕ) → sh p ≡ nil → keep p ≡ nil → IsKept sh keep (node p none)
nothing_kept sh keep p is kept =
    let built : build keep (node p none) ≡ term.nothing = ap (λ k. term.made p k term.none) kept in record {
      tokens = ap (λ u. (measure_of sh u).tokens) built;
      whole = subst (IsWhole sh) (sym built) tt;
      placed = λ last es. ap (placed_term sh last es) built
          ∙ sym (ap (λ k. made p k (extent_or last None) placed.none) is);
    }

node_kept : (sh keep : ℕ → Shape) (p n : ℕ) (s : Shape) (ts : Trees) → AreKept sh keep ts
    → ((t : Tree) → ts ≡ more t none → IsKept sh keep t) → IsShapeFor n s → count_of ts ≡ n → sh p ≡ s
    → keep p ≡ keeping n s → IsKept sh keep (node p ts)
node_kept sh keep p n nil none kids first fits count is kept = nothing_kept sh keep p is kept
node_kept sh keep p n nil (more t ts) kids first fits count is kept = absurd (omega arith)
node_kept sh keep p zero (place i) ts kids first fits count is kept = absurd (omega arith)
node_kept sh keep p (suc zero) (place i) none kids first fits count is kept = absurd (omega arith)
node_kept sh keep p (suc zero) (place i) (more t (more u ts)) kids first fits count is kept = absurd (omega arith)
node_kept sh keep p (suc zero) (place i) (more t none) kids first fits count is kept =
    let one : i ≡ 1 = omega arith in
    passed_kept sh keep p t (first t refl) (is ∙ ap place one) (kept ∙ ap place one)
node_kept sh keep p (suc (suc n)) (place i) ts kids first fits count is kept =
    whole_kept sh keep p (suc (suc n)) ts kids (subst (IsShapeFor (suc (suc n))) (sym is) fits) count kept
node_kept sh keep p n (shape.node name is) ts kids first fits count same kept =
    whole_kept sh keep p n ts kids (subst (IsShapeFor n) (sym same) fits) count kept

module _ (rules : List TableRule) (shaped : All IsShaped rules) where
  abbrev sh : ℕ → Shape
  sh = shape_of_rule rules

  abbrev keep : ℕ → Shape
  keep = shape_of_rule (map keeping_rule rules)

  by_rule : (p : ℕ) (ts : Trees) → AreKept sh keep ts → ((t : Tree) → ts ≡ more t none → IsKept sh keep t)
      → FitsRule rules p ts → IsKept sh keep (node p ts)
  by_rule zero ts kids first fits = absurd fits
  by_rule (suc q) ts kids first fits =
      let r = fits.0 in
      node_kept sh keep (suc q) r.body_length r.shape ts kids first (All-at IsShaped rules q r shaped fits.1) fits.2
      (ap (λ o. unwrap_or (option_map (λ x. x.shape) o) nil) fits.1)
      (ap (λ o. unwrap_or (option_map (λ x. x.shape) o) nil)
      (slice_get-map keeping_rule rules q ∙ ap (option_map keeping_rule) fits.1))

  mutual
    pub kept : (d : Tree) → Fits rules d → IsKept sh keep d
    kept (leaf t) fits = record { tokens = refl; whole = tt; placed = λ last es. refl }
    kept (node p ts) fits = by_rule p ts (all_kept ts fits.1) (λ t is. only ts fits.1 t is) fits.0

    only : (ts : Trees) → AllFit rules ts → (t : Tree) → ts ≡ more t none → IsKept sh keep t
    only none fits t is = absurd cc
    only (more u us) fits t is = let same : u ≡ t = cc in subst (IsKept sh keep) same (kept u fits.0)

    all_kept : (ts : Trees) → AllFit rules ts → AreKept sh keep ts
    all_kept none fits = record { tokens = refl; whole = tt; placed = λ last es. refl }
    all_kept (more t ts) fits =
        let one = kept t fits.0 in
        let others = all_kept ts fits.1 in
        let xs = map span_of (yield_of t) in
        let ys = map span_of (yields_of ts) in
        let n = (measure_of sh (build keep t)).tokens in
        let count : length xs ≡ n = length-map (yield_of t) span_of ∙ sym one.tokens in record {
          tokens = omega (arith, one.tokens, others.tokens, length-append (yield_of t) (yields_of ts));
          whole = (one.whole, others.whole);
          placed = λ last es.
              let all : map span_of (yield_of t ++ yields_of ts) ++ es ≡ xs ++ (ys ++ es)
              = ap (λ zs. zs ++ es) (map-append span_of (yield_of t) (yields_of ts)) ∙ append_assoc xs ys es in
              let next : (first_extent last n (xs ++ (ys ++ es))).end ≡ end_or last (tokens_extent t)
              = ap (λ e. e.end) (first_are last n xs (ys ++ es) (tokens_extent t) (sym count) (joined_is t))
              ∙ or_end last (tokens_extent t) in
              ap (λ zs. placed_terms sh last zs (term.more (build keep t) (builds keep ts))) all
              ∙ (λ i. placed.more (one.placed last (ys ++ es) i)
              (placed_terms sh (next i) (drop_at xs (ys ++ es) n count i) (builds keep ts)))
              ∙ ap (placed.more (placed.placed sh last t)) (others.placed (end_or last (tokens_extent t)) es);
        }

-- where the tokens before a tree end
ends_behind : (ts : List (Token ℕ)) → last_end (map span_of ts) ≡ end_behind ts
ends_behind [] = refl
ends_behind (t ∷ []) = refl
ends_behind (t ∷ u ∷ ts) = ends_behind (u ∷ ts)

-- what is known of the root of a derivation
pub record IsRoot (f : Grown) (root : TermRef) (tokens : List Span) (sh : ℕ → Shape) (before : List (Token ℕ))
    (d : Tree) : Type 0 where
  pub known : IsSome (term_of f root)
  pub whole : IsWhole sh (term_at f root)
  pub within : length before + (measure_of sh (term_at f root)).tokens ≡ length tokens
  pub placed : (first : ℕ) → first + (measure_of sh (term_at f root)).tokens ≡ length tokens
      → placed_term sh (last_end (take first tokens)) (drop first tokens) (term_at f root)
      ≡ placed.placed sh (end_behind before) d

pub derived_root : (f : Grown) (root : TermRef) (tokens : List Span) (rules : List TableRule)
    (before : List (Token ℕ)) (d : Tree) → All IsShaped rules → IsDerived f root tokens rules before d
    → IsRoot f root tokens (shape_of_rule rules) before d
derived_root f root tokens rules before d shaped h =
    let keep = shape_of_rule (map keeping_rule rules) in
    let sh = shape_of_rule rules in
    let good = kept rules shaped d h.fits in
    let t = build keep d in
    let is : term_at f root ≡ t = stands_unwrapped f root t h.stands in
    let xs = map span_of before in
    let ys = map span_of (yield_of d) in
    let all : xs ++ ys ≡ tokens = sym (map-append span_of before (yield_of d)) ∙ h.extents in
    let within : length before + (measure_of sh (term_at f root)).tokens ≡ length tokens
    = omega (
      arith,
      ap (λ u. (measure_of sh u).tokens) is,
      good.tokens,
      ap length h.extents,
      length-map (before ++ yield_of d) span_of,
      length-append before (yield_of d),
    ) in record {
      known = stands_known f root t h.stands;
      whole = subst (IsWhole sh) (sym is) good.whole;
      within = within;
      placed = λ first count.
          let front : length xs ≡ first = omega (arith, length-map before span_of) in
          let behind : drop first tokens ≡ ys ++ []
          = ap (drop first) (sym all) ∙ (drop_at xs ys first front ∙ sym (append-nil ys)) in
          let end : last_end (take first tokens) ≡ end_behind before
          = ap last_end (ap (take first) (sym all) ∙ take_at xs ys first front) ∙ ends_behind before in
          (λ i. placed_term sh (end i) (behind i) (is i)) ∙ good.placed (end_behind before) [];
    }
