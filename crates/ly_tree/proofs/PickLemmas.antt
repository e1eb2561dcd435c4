-- What stands at places of a body.
use Rattle.std.proofs.Common.{◌≡◌, ℕ, zero, suc, ◌+◌, ◌-◌, ◌<◌, ◌≤◌, List, [], ◌∷◌, ◌++◌, length, get_or, map, take}
use Rattle.std.proofs.Common.{refl, sym, ap, ◌∙◌, subst, append_assoc, arith}
use Rattle.std.proofs.lemmas.List.{length-map, map-append, take_more}
use Rattle.std.proofs.lemmas.List.Elements.{All-map}
use Rattle.std.specs.Prelude.{All, IsSome}
use Rattle.ly_tree.proofs.StandLemmas.{known_front, known_rest, known_stands}
use Rattle.ly_tree.specs.Forest.{term_of, terms_of, Grown, StandsFor, StandForAll}
use Rattle.ly_tree.specs.Private.Grown.{AllKnown}
use Rattle.ly_tree.specs.Private.Headed.{ref_at}
use Rattle.ly_tree.specs.Term.{at_place, at_places}
use Rattle.ly_tree.specs.declared.forest.TermRef.{TermRef}

ref_at_is : {C : Type 0} (f : C → TermRef) (body : List C) (k : ℕ) (d : C) → k < length body
    → ref_at (map f body) (suc k) ≡ f (get_or body k d)
ref_at_is f [] k d h = absurd (omega arith)
ref_at_is f (c ∷ body) zero d h = refl
ref_at_is f (c ∷ body) (suc k) d h = ref_at_is f body k d (omega arith)

-- one place more
pub picked_more : {C : Type 0} (f : C → TermRef) (body : List C) (places : List ℕ) (k : ℕ) (c : C) (r : TermRef)
    (old list longer : List TermRef) → k < length places → All (λ i. (1 ≤ i) × (i ≤ length body)) places
    → list ≡ old ++ map (ref_at (map f body)) (take k places) → c ≡ get_or body (get_or places k 0 - 1) c → r ≡ f c
    → longer ≡ list ++ r ∷ [] → longer ≡ old ++ map (ref_at (map f body)) (take (k + 1) places)
picked_more f body places k c r old list longer lt h before there is after =
    let i = get_or places k 0 in
    let low = (h k 0 lt).0 in
    let high = (h k 0 lt).1 in
    let next : suc (i - 1) ≡ i = omega (arith, low) in
    let same : r ≡ ref_at (map f body) i = is ∙ (ap f there
    ∙ (sym (ref_at_is f body (i - 1) c (omega (arith, low, high))) ∙ ap (ref_at (map f body)) next)) in
    after ∙ (ap (λ rs. rs ++ r ∷ []) before
    ∙ (append_assoc old (map (ref_at (map f body)) (take k places)) (r ∷ [])
    ∙ ap (λ rs. old ++ rs) (ap (λ x. map (ref_at (map f body)) (take k places) ++ x ∷ []) same
    ∙ sym (ap (map (ref_at (map f body))) (take_more places k 0 lt)
    ∙ map-append (ref_at (map f body)) (take k places) (i ∷ [])))))

ref_stands : (f : Grown) (refs : List TermRef) (i : ℕ) → AllKnown f refs → 1 ≤ i → i ≤ length refs
    → StandsFor f (ref_at refs i) (at_place (terms_of f refs) i)
ref_stands f [] i known low high = absurd (omega arith)
ref_stands f (r ∷ refs) zero known low high = absurd (omega arith)
ref_stands f (r ∷ refs) (suc zero) known low high = known_stands f r (known_front f r refs known)
ref_stands f (r ∷ refs) (suc (suc i)) known low high =
    ref_stands f refs (suc i) (known_rest f r refs known) (omega arith) (omega arith)

-- what stands at places of a body stands for the terms there
picked_stand : (f : Grown) (refs : List TermRef) (places : List ℕ) → AllKnown f refs
    → All (λ i. (1 ≤ i) × (i ≤ length refs)) places
    → StandForAll f (map (ref_at refs) places) (at_places (terms_of f refs) places)
picked_stand f refs [] known h = tt
picked_stand f refs (i ∷ places) known h = (
  ref_stands f refs i known (h 0 i (omega arith)).0 (h 0 i (omega arith)).1,
  picked_stand f refs places known (λ k d lt. h (suc k) d (omega arith)),
)

pub body_stands : {C : Type 0} (g : C → TermRef) (body : List C) (f : Grown) (places : List ℕ)
    → All (λ c. IsSome (term_of f (g c))) body → All (λ i. (1 ≤ i) × (i ≤ length body)) places
    → StandForAll f (map (ref_at (map g body)) places) (at_places (terms_of f (map g body)) places)
body_stands g body f places known h =
    picked_stand f (map g body) places (All-map (λ r. IsSome (term_of f r)) g body known)
    (subst (λ n. All (λ i. (1 ≤ i) × (i ≤ n)) places) (sym (length-map body g)) h)
