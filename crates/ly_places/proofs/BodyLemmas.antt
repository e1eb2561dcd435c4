-- The terms of a node's body, which wait for their parts to be listed.
use Rattle.std.proofs.Common.{◌≡◌, ◌∙◌, ℕ, zero, suc, ◌+◌, ◌-◌, ◌≤◌, List, [], ◌∷◌, ◌++◌, All, ap, append-nil}
use Rattle.std.proofs.Common.{append_assoc, arith, drop, get_or, length, map, refl, subst, sym, take}
use Rattle.std.proofs.lemmas.List.{drop-drop, length-drop, length-take-le, reverse-append}
use Rattle.std.proofs.lemmas.List.Elements.{All-cons, All-nil, All-tail}
use Rattle.std.specs.Prelude.{reverse}
use Rattle.ly_base.specs.Shape.{Shape}
use Rattle.ly_places.specs.Parts.{all_parts, parts_of}
use Rattle.ly_places.specs.Placed.{Placed, PlacedTerms, at_place, at_places, more, none}
use Rattle.ly_places.specs.Private.Kept.{first_extent, placed_term, placed_terms, AreWhole, IsWhole}
use Rattle.ly_places.specs.Private.Measured.{measure_of, tokens_among}
use Rattle.ly_places.specs.Private.Waiting.{all_visits, body_from, listed, placed_at, visits, visits_among, visits_at}
use Rattle.ly_places.specs.Private.Waiting.{visits_left, waiting_at, IsReady}
use Rattle.ly_spans.specs.declared.span.Span.{Span}
use Rattle.ly_places.specs.declared.flattening.Waiting.{Waiting}
use Rattle.ly_places.specs.declared.measure.Measure.{Measure}
use Rattle.ly_places.specs.declared.part.Part.{Part}
use Rattle.ly_tree.proofs.StandLemmas.{stands_known, stands_unwrapped}
use Rattle.ly_tree.specs.Forest.{all_of, Grown, StandForAll}
use Rattle.ly_tree.specs.Private.Printing.{term_at}
use Rattle.ly_tree.specs.Term.{Term}
use Rattle.ly_tree.specs.declared.forest.TermRef.{TermRef}
use Rattle.ly_tree.specs.declared.forest.TermRef.TheVariants.{Nothing}

-- a body has as many as there are children and measures
body_count : (tokens : List Span) (first last : ℕ) (rs : List TermRef) (ms : List Measure) → length rs ≡ length ms
    → length (body_from tokens first last rs ms) ≡ length rs
body_count tokens first last [] ms h = refl
body_count tokens first last (r ∷ rs) [] h = absurd (omega arith)
body_count tokens first last (r ∷ rs) (m ∷ ms) h =
    omega (
      arith,
      body_count tokens (first + m.tokens) (first_extent last m.tokens (drop first tokens)).end rs ms
          (omega arith),
    )

pub body_length : (tokens : List Span) (first last start count : ℕ) (rs : List TermRef) (ms : List Measure)
    → start + count ≤ length rs → start + count ≤ length ms
    → length (body_from tokens first last (take count (drop start rs)) (take count (drop start ms))) ≡ count
body_length tokens first last start count rs ms h g =
    let refs : length (take count (drop start rs)) ≡ count
    = length-take-le count (drop start rs) (omega (arith, length-drop start rs)) in
    let measures : length (take count (drop start ms)) ≡ count
    = length-take-le count (drop start ms) (omega (arith, length-drop start ms)) in
    body_count tokens first last (take count (drop start rs)) (take count (drop start ms)) (refs ∙ sym measures) ∙ refs

next_at : (w : Waiting) (b : List Waiting) (i : ℕ) → waiting_at (w ∷ b) (suc (suc i)) ≡ waiting_at b (suc i)
next_at w b i = step (suc (suc i) - 1) (suc i - 1) (omega arith)
  where
    step : (m n : ℕ) → m ≡ suc n → get_or (w ∷ b) m (record { term = Nothing; first = 0; last = 0 })
        ≡ get_or b n (record { term = Nothing; first = 0; last = 0 })
    step m n e = ap (λ k. get_or (w ∷ b) k (record { term = Nothing; first = 0; last = 0 })) e

-- placed terms as terms one after another
abbrev pub in_a_row : List Placed → PlacedTerms
in_a_row [] = none
in_a_row (k ∷ ks) = more k (in_a_row ks)

module _ (shape : ℕ → Shape) (tokens : List Span) (f : Grown) where
  pub body_placed : (rs : List TermRef) (ts : List Term) (first last : ℕ) → StandForAll f rs (all_of ts)
      → in_a_row (map (placed_at shape tokens f) (body_from tokens first last rs (map (measure_of shape) ts)))
      ≡ placed_terms shape last (drop first tokens) (all_of ts)
  body_placed [] [] first last h = refl
  body_placed [] (t ∷ ts) first last h = absurd h
  body_placed (r ∷ rs) [] first last h = absurd h
  body_placed (r ∷ rs) (t ∷ ts) first last h =
      let n = (measure_of shape t).tokens in
      let next = (first_extent last n (drop first tokens)).end in
      ap (λ u. more (placed_term shape last (drop first tokens) u) (in_a_row (map (placed_at shape tokens f)
      (body_from tokens (first + n) next rs (map (measure_of shape) ts))))) (stands_unwrapped f r t h.0)
      ∙ ap (more (placed_term shape last (drop first tokens) t))
      (body_placed rs ts (first + n) next h.1
      ∙ ap (λ es. placed_terms shape next es (all_of ts)) (sym (drop-drop n first tokens)))

  pub body_visits : (rs : List TermRef) (ts : List Term) (first last : ℕ) → StandForAll f rs (all_of ts)
      → map (λ w. visits shape (term_at f w.term)) (body_from tokens first last rs (map (measure_of shape) ts))
      ≡ all_visits shape (all_of ts)
  body_visits [] [] first last h = refl
  body_visits [] (t ∷ ts) first last h = absurd h
  body_visits (r ∷ rs) [] first last h = absurd h
  body_visits (r ∷ rs) (t ∷ ts) first last h =
      let n = (measure_of shape t).tokens in
      let next = (first_extent last n (drop first tokens)).end in
      ap (λ u. visits shape u ∷ map (λ w. visits shape (term_at f w.term))
      (body_from tokens (first + n) next rs (map (measure_of shape) ts))) (stands_unwrapped f r t h.0)
      ∙ ap (λ ns. visits shape t ∷ ns) (body_visits rs ts (first + n) next h.1)

  pub body_ready : (rs : List TermRef) (ts : List Term) (first last : ℕ) → StandForAll f rs (all_of ts)
      → AreWhole shape (all_of ts) → first + tokens_among (map (measure_of shape) ts) ≤ length tokens
      → All (IsReady shape tokens f) (body_from tokens first last rs (map (measure_of shape) ts))
  body_ready [] ts first last h whole within k d lt = absurd (omega arith)
  body_ready (r ∷ rs) [] first last h whole within k d lt = absurd h
  body_ready (r ∷ rs) (t ∷ ts) first last h whole within zero d lt =
      let is : t ≡ term_at f r = sym (stands_unwrapped f r t h.0) in record {
        known = stands_known f r t h.0;
        whole = subst (IsWhole shape) is whole.0;
        within = subst (λ u. first + (measure_of shape u).tokens ≤ length tokens) is (omega arith);
      }
  body_ready (r ∷ rs) (t ∷ ts) first last h whole within (suc k) d lt =
      let n = (measure_of shape t).tokens in
      body_ready rs ts (first + n) (first_extent last n (drop first tokens)).end h.1 whole.1 (omega arith) k d
      (omega arith)

  -- one more on top
  pub listed-push : (ws : List Waiting) (w : Waiting)
      → listed shape tokens f (ws ++ w ∷ []) ≡ parts_of (placed_at shape tokens f w) ++ listed shape tokens f ws
  listed-push [] w = sym (append-nil (parts_of (placed_at shape tokens f w)))
  listed-push (v ∷ ws) w =
      ap (λ ps. ps ++ parts_of (placed_at shape tokens f v)) (listed-push ws w)
      ∙ append_assoc (parts_of (placed_at shape tokens f w)) (listed shape tokens f ws)
      (parts_of (placed_at shape tokens f v))

  pub visits-push : (ws : List Waiting) (w : Waiting)
      → visits_left shape f (ws ++ w ∷ []) ≡ visits shape (term_at f w.term) + visits_left shape f ws
  visits-push [] w = refl
  visits-push (v ∷ ws) w = omega (arith, visits-push ws w)

  -- the parts of terms, the first one's first
  abbrev pub in_order : List Waiting → List Part
  in_order [] = []
  in_order (w ∷ ws) = parts_of (placed_at shape tokens f w) ++ in_order ws

  -- terms on top, the first one at the end
  pub listed-reverse : (ws vs : List Waiting)
      → listed shape tokens f (ws ++ reverse vs) ≡ in_order vs ++ listed shape tokens f ws
  listed-reverse ws [] = ap (listed shape tokens f) (append-nil ws)
  listed-reverse ws (v ∷ vs) =
      ap (λ us. listed shape tokens f (ws ++ us)) (reverse-append (v ∷ []) vs)
      ∙ (ap (listed shape tokens f) (sym (append_assoc ws (reverse vs) (v ∷ [])))
      ∙ (listed-push (ws ++ reverse vs) v
      ∙ (ap (λ ps. parts_of (placed_at shape tokens f v) ++ ps) (listed-reverse ws vs)
      ∙ sym (append_assoc (parts_of (placed_at shape tokens f v)) (in_order vs) (listed shape tokens f ws)))))

  pub visits-reverse : (ws vs : List Waiting)
      → visits_left shape f (ws ++ reverse vs) ≡ visits_left shape f vs + visits_left shape f ws
  visits-reverse ws [] = let one = ap (visits_left shape f) (append-nil ws) in omega (arith, one)
  visits-reverse ws (v ∷ vs) =
      let one = ap (λ us. visits_left shape f (ws ++ us)) (reverse-append (v ∷ []) vs)
      ∙ (ap (visits_left shape f) (sym (append_assoc ws (reverse vs) (v ∷ []))) ∙ visits-push (ws ++ reverse vs) v) in
      omega (arith, one, visits-reverse ws vs)

  -- what stands at a place of a body
  pub placed_there : (b : List Waiting) (i : ℕ) (other : Placed) → 1 ≤ i → i ≤ length b
      → at_place (in_a_row (map (placed_at shape tokens f) b)) i other ≡ placed_at shape tokens f (waiting_at b i)
  placed_there [] i other low high = absurd (omega arith)
  placed_there (w ∷ b) zero other low high = absurd (omega arith)
  placed_there (w ∷ b) (suc zero) other low high = refl
  placed_there (w ∷ b) (suc (suc i)) other low high =
      placed_there b (suc i) other (omega arith) (omega arith)
      ∙ ap (placed_at shape tokens f) (sym (next_at w b i))

  pub visits_there : (b : List Waiting) (i : ℕ) → 1 ≤ i → i ≤ length b
      → visits_at (map (λ w. visits shape (term_at f w.term)) b) i ≡ visits shape (term_at f (waiting_at b i).term)
  visits_there [] i low high = absurd (omega arith)
  visits_there (w ∷ b) zero low high = absurd (omega arith)
  visits_there (w ∷ b) (suc zero) low high = refl
  visits_there (w ∷ b) (suc (suc i)) low high =
      visits_there b (suc i) (omega arith) (omega arith)
      ∙ ap (λ v. visits shape (term_at f v.term)) (sym (next_at w b i))

  pub ready_there : (b : List Waiting) (i : ℕ) → All (IsReady shape tokens f) b → 1 ≤ i → i ≤ length b
      → IsReady shape tokens f (waiting_at b i)
  ready_there b i h low high = h (i - 1) _ (omega arith)

  -- what stands at places of a body
  pub places_listed : (b : List Waiting) (is : List ℕ) (other : Placed) → All (λ i. (1 ≤ i) × (i ≤ length b)) is
      → all_parts (at_places (in_a_row (map (placed_at shape tokens f) b)) is other)
      ≡ in_order (map (waiting_at b) is)
  places_listed b [] other h = refl
  places_listed b (i ∷ is) other h =
      let here = h 0 i (omega arith) in
      ap (λ k. parts_of k ++ all_parts (at_places (in_a_row (map (placed_at shape tokens f) b)) is other))
      (placed_there b i other here.0 here.1)
      ∙ ap (λ ps. parts_of (placed_at shape tokens f (waiting_at b i)) ++ ps)
      (places_listed b is other (All-tail (λ j. (1 ≤ j) × (j ≤ length b)) i is h))

  pub visits_listed : (b : List Waiting) (is : List ℕ) → All (λ i. (1 ≤ i) × (i ≤ length b)) is
      → visits_among (map (λ w. visits shape (term_at f w.term)) b) is ≡ visits_left shape f (map (waiting_at b) is)
  visits_listed b [] h = refl
  visits_listed b (i ∷ is) h =
      let here = h 0 i (omega arith) in
      omega (
        arith,
        visits_there b i here.0 here.1,
        visits_listed b is (All-tail (λ j. (1 ≤ j) × (j ≤ length b)) i is h),
      )

  pub all_ready_there : (b : List Waiting) (is : List ℕ) → All (IsReady shape tokens f) b
      → All (λ i. (1 ≤ i) × (i ≤ length b)) is → All (IsReady shape tokens f) (map (waiting_at b) is)
  all_ready_there b [] ready h = All-nil (IsReady shape tokens f)
  all_ready_there b (i ∷ is) ready h =
      let here = h 0 i (omega arith) in
      All-cons (IsReady shape tokens f) (waiting_at b i) (map (waiting_at b) is) (ready_there b i ready here.0 here.1)
      (all_ready_there b is ready (All-tail (λ j. (1 ≤ j) × (j ≤ length b)) i is h))
