-- Members of lists.
use Rattle.std.proofs.Common.{◌≡◌, ◌⊎◌, inl, inr, zero, suc, List, [], ◌∷◌, refl, sym, subst, arith, Contains}
use Rattle.std.specs.Prelude.{flat_map}
use Rattle.std.proofs.lemmas.List.Elements.{Contains-append_cases, Contains-append_left, Contains-append_right}

-- the empty list has none
pub Contains-none : {X A : Type 0} (x : X) → Contains [] x → A
Contains-none x h = absurd (omega (arith, h.1))

pub Contains-first : {X : Type 0} (x : X) (xs : List X) → Contains (x ∷ xs) x
Contains-first x xs = (0, omega arith, refl)

pub Contains-later : {X : Type 0} (x : X) (xs : List X) (y : X) → Contains xs y → Contains (x ∷ xs) y
Contains-later x xs y h = (suc h.0, omega (arith, h.1), h.2)

-- a member is the first, or one of the rest
pub Contains-cons_cases : {X : Type 0} (x : X) (xs : List X) (y : X) → Contains (x ∷ xs) y → (x ≡ y) ⊎ Contains xs y
Contains-cons_cases x xs y (zero, l, e) = inl e
Contains-cons_cases x xs y (suc k, l, e) = inr (k, omega (arith, l), e)

pub Contains-one : {X : Type 0} (x y : X) → Contains (x ∷ []) y → x ≡ y
Contains-one x y h = elim (Contains-cons_cases x [] y h) [ inl same ↦ same | inr none ↦ Contains-none y none ]

-- two lists have the same members
pub record SameMembers {X : Type 0} (xs ys : List X) : Type 0 where
  pub to : (x : X) → Contains xs x → Contains ys x
  pub back : (x : X) → Contains ys x → Contains xs x

-- what a function's lists have together
pub Contains-flat_map : {X Y : Type 0} (f : X → List Y) (xs : List X) (x : X) (y : Y) → Contains xs x → Contains (f x) y
    → Contains (flat_map f xs) y
Contains-flat_map f [] x y h k = Contains-none x h
Contains-flat_map {Y = Y} f (z ∷ xs) x y h k = elim (Contains-cons_cases z xs x h) [
  | inl same ↦ Contains-append_left (f z) (flat_map f xs) y (subst (λ w. Contains (f w) y) (sym same) k)
  | inr later ↦ Contains-append_right (f z) (flat_map f xs) y (Contains-flat_map f xs x y later k)
]

pub flat_map-Contains : {X Y : Type 0} (f : X → List Y) (xs : List X) (y : Y) → Contains (flat_map f xs) y
    → (x : X) × Contains xs x × Contains (f x) y
flat_map-Contains f [] y h = Contains-none y h
flat_map-Contains f (z ∷ xs) y h = elim (Contains-append_cases (f z) (flat_map f xs) y h) [
  | inl here ↦ (z, Contains-first z xs, here)
  | inr later ↦ let x = flat_map-Contains f xs y later in (x.0, Contains-later z xs x.0 x.1, x.2)
]

-- lists of the same members give the same together
pub flat_map-same : {X Y : Type 0} (f : X → List Y) (xs ys : List X) → SameMembers xs ys
    → SameMembers (flat_map f xs) (flat_map f ys)
flat_map-same f xs ys s = record {
  to = λ y h. let x = flat_map-Contains f xs y h in Contains-flat_map f ys x.0 y (s.to x.0 x.1) x.2;
  back = λ y h. let x = flat_map-Contains f ys y h in Contains-flat_map f xs x.0 y (s.back x.0 x.1) x.2;
}
