-- Places of lists, and lists in order.
use Rattle.std.proofs.Common.{◌≡◌, ◌≢◌, ◌∙◌, ℕ, zero, suc, ◌+◌, ◌<◌, List, [], ◌∷◌, ◌++◌, Bool, false, Option, Some}
use Rattle.std.proofs.Common.{None, All, Contains, ap, arith, eqb, inl, inr, length, option_map, refl, slice_get, subst}
use Rattle.std.proofs.Common.{sym}
use Rattle.std.specs.List.{AllPairs, range_with_len}
use Rattle.std.proofs.lemmas.Bool.{false≢true}
use Rattle.std.proofs.lemmas.List.Elements.{All-contains_itself, All-weaker, Contains-append_cases}
use Rattle.std.proofs.lemmas.List.FromFn.{get_or-range_with_len, length-range_with_len}
use Rattle.std.proofs.lemmas.List.Kept.{AllPairs-cons}
use Rattle.std.proofs.lemmas.Option.{get_or_from_slice_get, slice_get-get_or, slice_get_cases, slice_get_within}
use Rattle.ly_base.proofs.MemberLemmas.{Contains-cons_cases, Contains-first, Contains-later, Contains-none}

-- what stands at a place stands there before more
pub slice_get-append : {X : Type 0} (xs ys : List X) (k : ℕ) (x : X) → slice_get xs k ≡ Some x
    → slice_get (xs ++ ys) k ≡ Some x
slice_get-append [] ys k x here = absurd (cc)
slice_get-append (z ∷ xs) ys zero x here = here
slice_get-append (z ∷ xs) ys (suc k) x here = slice_get-append xs ys k x here

-- what comes behind a list stands at its length
pub slice_get-behind : {X : Type 0} (xs ys : List X) (k : ℕ) (x : X) → length xs ≡ k
    → slice_get (xs ++ x ∷ ys) k ≡ Some x
slice_get-behind [] ys zero x e = refl
slice_get-behind [] ys (suc k) x e = absurd (omega arith)
slice_get-behind (z ∷ xs) ys zero x e = absurd (omega arith)
slice_get-behind (z ∷ xs) ys (suc k) x e = slice_get-behind xs ys k x (omega arith)

-- there is something at each place within
pub some_at : {X : Type 0} (xs : List X) (k : ℕ) → k < length xs → (x : X) × (slice_get xs k ≡ Some x)
some_at xs k lt = elim (slice_get_cases xs k).1 [ inl h ↦ (h.0, h.2) | inr past ↦ absurd (omega (arith, past.0)) ]

-- each number stands at its own place
pub slice_get-range : (n k : ℕ) → k < n → slice_get (range_with_len 0 n) k ≡ Some k
slice_get-range n k lt = slice_get-get_or (range_with_len 0 n) k 0 (omega (arith, length-range_with_len 0 n))
    ∙ ap Some (get_or-range_with_len 0 n k 0 lt ∙ none_before k)
  where
    none_before : (k : ℕ) → 0 + k ≡ k
    none_before k = omega arith

-- what holds of each holds of one that is found
pub All-at : {X : Type 0} (P : X → Type 0) (xs : List X) (k : ℕ) (x : X) → All P xs → slice_get xs k ≡ Some x → P x
All-at P xs k x all at = subst P (get_or_from_slice_get xs k x x at) (all k x (slice_get_within xs k x at))

-- and of the last
pub All-last : {X : Type 0} (P : X → Type 0) (xs : List X) (x : X) → All P (xs ++ x ∷ []) → P x
All-last P xs x all = All-at P (xs ++ x ∷ []) (length xs) x all (slice_get-behind xs [] (length xs) x refl)

-- what a value that may be there is mapped to
pub option_map-some : {X Y : Type 0} (f : X → Y) (o : Option X) (y : Y) → option_map f o ≡ Some y
    → (x : X) × (o ≡ Some x) × (f x ≡ y)
option_map-some f None y e = absurd cc
option_map-some f (Some x) y e = (x, refl, cc)

pub option_map-none : {X Y : Type 0} (f : X → Y) (o : Option X) → option_map f o ≡ None → o ≡ None
option_map-none f None e = refl
option_map-none f (Some x) e = absurd cc

-- a list whose length was found not to be 0
pub not_empty : {X : Type 0} (t : Bool) (xs : List X) → t ≡ eqb (length xs) 0 → t ≡ false → xs ≢ []
not_empty t [] e f n = false≢true (sym f ∙ e)
not_empty t (x ∷ xs) e f n = cc n

module _ {X : Type 0} (R : X → X → Type 0) where
  pub AllPairs-nil : AllPairs R []
  AllPairs-nil = λ i j d lt inside. absurd (omega (arith, inside))

  pub AllPairs-one : (x : X) → AllPairs R (x ∷ [])
  AllPairs-one x = λ i j d lt inside. absurd (omega (arith, lt, inside))

  -- what a list begins with comes before all the others
  pub AllPairs-head : (x y : X) (xs : List X) → AllPairs R (x ∷ xs) → Contains xs y → R x y
  AllPairs-head x y xs pairs (k, lt, is) = subst (R x) is (pairs 0 (suc k) y (omega arith) (omega (arith, lt)))

  pub AllPairs-tail : (x : X) (xs : List X) → AllPairs R (x ∷ xs) → AllPairs R xs
  AllPairs-tail x xs pairs = λ i j d lt inside. pairs (suc i) (suc j) d (omega (arith, lt)) (omega (arith, inside))

  -- one list in order behind another
  pub AllPairs-append : (xs ys : List X) → AllPairs R xs → AllPairs R ys
      → ((x y : X) → Contains xs x → Contains ys y → R x y) → AllPairs R (xs ++ ys)
  AllPairs-append [] ys a b across = b
  AllPairs-append (x ∷ xs) ys a b across = AllPairs-cons R x (xs ++ ys)
      (All-weaker (Contains (xs ++ ys)) (R x) (λ y is. elim (Contains-append_cases xs ys y is) [
        | inl here ↦ AllPairs-head x y xs a here
        | inr there ↦ across x y (Contains-first x xs) there
      ]) (xs ++ ys) (All-contains_itself (xs ++ ys)))
      (AllPairs-append xs ys (AllPairs-tail x xs a) b (λ z y is there. across z y (Contains-later x xs z is) there))

module _ {X : Type 0} (R : X → X → Type 0) (off : (x y : X) → R x y → R y x → ⊥) where
  -- lists in rising order with the same members are one
  pub rising_one : (xs ys : List X) → AllPairs R xs → AllPairs R ys → ((q : X) → Contains xs q → Contains ys q)
      → ((q : X) → Contains ys q → Contains xs q) → xs ≡ ys
  rising_one [] [] r s to back = refl
  rising_one [] (y ∷ ys) r s to back = Contains-none y (back y (Contains-first y ys))
  rising_one (x ∷ xs) [] r s to back = Contains-none x (to x (Contains-first x xs))
  rising_one (x ∷ xs) (y ∷ ys) r s to back = ap (λ z. z ∷ xs) first ∙ ap (λ zs. y ∷ zs)
      (rising_one xs ys (AllPairs-tail R x xs r) (AllPairs-tail R y ys s) onward backward)
    where
      first : x ≡ y
      first = elim (Contains-cons_cases y ys x (to x (Contains-first x xs))) [
        | inl same ↦ sym same
        | inr later ↦ elim (Contains-cons_cases x xs y (back y (Contains-first y ys))) [
          | inl same ↦ same
          | inr after ↦ absurd (off x y (AllPairs-head R x y xs r after) (AllPairs-head R y x ys s later))
        ]
      ]

      onward : (q : X) → Contains xs q → Contains ys q
      onward q c = elim (Contains-cons_cases y ys q (to q (Contains-later x xs q c))) [
        | inl same ↦ let less = subst (λ z. R z q) first (AllPairs-head R x q xs r c) in
            absurd (off y q less (subst (λ z. R q z) (sym same) (subst (λ z. R z q) same less)))
        | inr later ↦ later
      ]

      backward : (q : X) → Contains ys q → Contains xs q
      backward q c = elim (Contains-cons_cases x xs q (back q (Contains-later y ys q c))) [
        | inl same ↦ let less = subst (λ z. R z q) (sym first) (AllPairs-head R y q ys s c) in
            absurd (off x q less (subst (λ z. R q z) (sym same) (subst (λ z. R z q) same less)))
        | inr later ↦ later
      ]
