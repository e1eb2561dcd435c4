-- Lists that are gone through from the front.
use Rattle.std.proofs.Common.{◌≡◌, ◌<◌, ◌+◌, ◌≤◌, ℕ, zero, suc, List, [], ◌∷◌, ◌++◌, Some, length, map, take}
use Rattle.std.proofs.Common.{slice_get, slice_index_or, Contains, AllPairs, refl, sym, ap, subst, ◌∙◌, arith}
use Rattle.std.proofs.Common.{◌≢◌, inl, inr, ◌⊎◌, drop}
use Rattle.std.proofs.lemmas.List.{append-nil, drop_more, get_or-map, length-map, map_more}
use Rattle.std.proofs.lemmas.List.{take-append-drop, take-map, take_all}
use Rattle.std.proofs.lemmas.List.Concat.{flat_map-append}
use Rattle.ly_base.proofs.MemberLemmas.{Contains-cons_cases, Contains-first, Contains-later, Contains-none}
use Rattle.std.proofs.lemmas.Option.{get_or_from_slice_get, slice_get-get_or, slice_get_within}
use Rattle.std.proofs.lemmas.Bool.{cases_lt}
use Rattle.std.specs.List.{AllZip, flat_map}

-- one more item of what a list is mapped to
pub mapped_next : {X Y : Type 0} (f : X → Y) (xs : List X) (i : ℕ) (x : X) → i < length xs
    → take (i + 1) (map f xs) ≡ take i (map f xs) ++ f (slice_index_or xs i x) ∷ []
mapped_next f xs i x lt = take-map f (i + 1) xs
    ∙ (map_more f xs i x lt ∙ ap (λ ys. ys ++ f (slice_index_or xs i x) ∷ []) (sym (take-map f i xs)))

pub mapped_more : {X Y : Type 0} (f : X → Y) (xs : List X) (i : ℕ) (x : X) → i < length xs → x ≡ slice_index_or xs i x
    → take (i + 1) (map f xs) ≡ take i (map f xs) ++ f x ∷ []
mapped_more f xs i x lt is = mapped_next f xs i x lt ∙ ap (λ y. take i (map f xs) ++ f y ∷ []) (sym is)

-- a list that is mapped twice
pub map_twice : {X Y Z : Type 0} (g : Y → Z) (f : X → Y) (xs : List X) → map g (map f xs) ≡ map (λ x. g (f x)) xs
map_twice g f [] = refl
map_twice g f (x ∷ xs) = ap (λ zs. g (f x) ∷ zs) (map_twice g f xs)

pub twice_more : {X Y Z : Type 0} (g : Y → Z) (f : X → Y) (xs : List X) (i : ℕ) (x : X) → i < length xs
    → x ≡ slice_index_or xs i x → take (i + 1) (map g (map f xs)) ≡ take i (map g (map f xs)) ++ g (f x) ∷ []
twice_more g f xs i x lt is = ap (take (i + 1)) (map_twice g f xs) ∙ (mapped_more (λ y. g (f y)) xs i x lt is
    ∙ ap (λ zs. take i zs ++ g (f x) ∷ []) (sym (map_twice g f xs)))

pub flat_more : {X Y Z : Type 0} (g : Y → List Z) (f : X → Y) (xs : List X) (i : ℕ) (x : X) → i < length xs
    → x ≡ slice_index_or xs i x
    → flat_map g (take (i + 1) (map f xs)) ≡ flat_map g (take i (map f xs)) ++ g (f x)
flat_more g f xs i x lt is = ap (flat_map g) (mapped_more f xs i x lt is)
    ∙ (flat_map-append g (take i (map f xs)) (f x ∷ [])
    ∙ ap (λ zs. flat_map g (take i (map f xs)) ++ zs) (append-nil (g (f x))))

-- a list around the item that is read
pub mapped_split : {X Y : Type 0} (f : X → Y) (xs : List X) (i : ℕ) (x : X) → i < length xs → x ≡ slice_index_or xs i x
    → map f xs ≡ take i (map f xs) ++ f x ∷ drop (i + 1) (map f xs)
mapped_split f xs i x lt is = sym (take-append-drop i (map f xs))
    ∙ ap (λ ys. take i (map f xs) ++ ys)
    (drop_more (map f xs) i (f x) (omega (arith, lt, length-map xs f))
    ∙ ap (λ y. y ∷ drop (i + 1) (map f xs)) (get_or-map f xs i x (f x) lt ∙ ap f (sym is)))

-- all items of what a list is mapped to
pub mapped_all : {X Y : Type 0} (f : X → Y) (xs : List X) (i : ℕ) → length xs ≤ i → take i (map f xs) ≡ map f xs
mapped_all f xs i le = take_all i (map f xs) (omega (arith, le, length-map xs f))

pub twice_all : {X Y Z : Type 0} (g : Y → Z) (f : X → Y) (xs : List X) (i : ℕ) → length xs ≤ i
    → take i (map g (map f xs)) ≡ map g (map f xs)
twice_all g f xs i le = mapped_all g (map f xs) i (omega (arith, le, length-map xs f))

-- the item that is read stands in the list
pub read_in : {X : Type 0} (xs : List X) (i : ℕ) (x : X) → i < length xs → x ≡ slice_index_or xs i x → Contains xs x
read_in xs i x lt is = (i, lt, sym is)

-- what a list is mapped to contains what its members are
pub mapped_in : {X Y : Type 0} (f : X → Y) (xs : List X) (x : X) → Contains xs x → Contains (map f xs) (f x)
mapped_in f [] x (k, lt, e) = absurd (omega (arith, lt))
mapped_in f (y ∷ xs) x (zero, lt, e) = (0, omega arith, ap f e)
mapped_in f (y ∷ xs) x (suc k, lt, e) =
    let rest = mapped_in f xs x (k, omega (arith, lt), e) in
    (suc rest.0, omega (arith, rest.1), rest.2)

-- and only that
pub in_mapped : {X Y : Type 0} (f : X → Y) (xs : List X) (y : Y) → Contains (map f xs) y
    → (x : X) × Contains xs x × (f x ≡ y)
in_mapped f [] y (k, lt, e) = absurd (omega (arith, lt))
in_mapped f (x ∷ xs) y (zero, lt, e) = (x, (0, omega arith, refl), e)
in_mapped f (x ∷ xs) y (suc k, lt, e) =
    let rest = in_mapped f xs y (k, omega (arith, lt), e) in
    (rest.0, (suc rest.1.0, omega (arith, rest.1.1), rest.1.2), rest.2)

-- a member stands at a place
pub placed : {X : Type 0} (xs : List X) (x : X) → Contains xs x → (k : ℕ) × (slice_get xs k ≡ Some x)
placed xs x (k, lt, e) = (k, slice_get-get_or xs k x lt ∙ ap Some e)

-- what stands at a place is a member
pub member_at : {X : Type 0} (xs : List X) (k : ℕ) (x : X) → slice_get xs k ≡ Some x → Contains xs x
member_at xs k x here = (k, slice_get_within xs k x here, get_or_from_slice_get xs k x x here)

-- two places of members whose keys differ are one where the keys are the same
pub one_place : {X K : Type 0} (key : X → K) (xs : List X) (i j : ℕ) (x y : X) → AllPairs (λ a b. key a ≢ key b) xs
    → slice_get xs i ≡ Some x → slice_get xs j ≡ Some y → key x ≡ key y → i ≡ j
one_place {X} {K} key xs i j x y apart at_i at_j same = by (cases_lt i j) (cases_lt j i)
  where
    here : slice_index_or xs i x ≡ x
    here = get_or_from_slice_get xs i x x at_i

    there : slice_index_or xs j x ≡ y
    there = get_or_from_slice_get xs j y x at_j

    equal : key (slice_index_or xs i x) ≡ key (slice_index_or xs j x)
    equal = ap key here ∙ (same ∙ ap key (sym there))

    by : (i < j) ⊎ (j ≤ i) → (j < i) ⊎ (i ≤ j) → i ≡ j
    by (inl less) g = absurd (apart i j x less (slice_get_within xs j y at_j) equal)
    by (inr le) (inl less) = absurd (apart j i x less (slice_get_within xs i x at_i) (sym equal))
    by (inr le) (inr ge) = omega (arith, le, ge)

-- lists that are related one by one, with one more each
pub zip_push : {X Y : Type 0} (R : X → Y → Type 0) (xs : List X) (ys : List Y) (x : X) (y : Y) → AllZip R xs ys
    → R x y → AllZip R (xs ++ x ∷ []) (ys ++ y ∷ [])
zip_push R [] [] x y all one = (one, tt)
zip_push R [] (z ∷ ys) x y all one = absurd all
zip_push R (w ∷ xs) [] x y all one = absurd all
zip_push R (w ∷ xs) (z ∷ ys) x y all one = (all.0, zip_push R xs ys x y all.1 one)

-- and they are as long
pub zip_length : {X Y : Type 0} (R : X → Y → Type 0) (xs : List X) (ys : List Y) → AllZip R xs ys
    → length ys ≡ length xs
zip_length R [] [] all = refl
zip_length R [] (z ∷ ys) all = absurd all
zip_length R (w ∷ xs) [] all = absurd all
zip_length R (w ∷ xs) (z ∷ ys) all = omega (arith, zip_length R xs ys all.1)

-- a member of the second is related to one of the first
pub zip_member : {X Y : Type 0} (R : X → Y → Type 0) (xs : List X) (ys : List Y) (y : Y) → AllZip R xs ys
    → Contains ys y → (x : X) × Contains xs x × R x y
zip_member R [] [] y all h = (Contains-none y h)
zip_member R [] (z ∷ ys) y all h = absurd all
zip_member R (w ∷ xs) [] y all h = absurd all
zip_member R (w ∷ xs) (z ∷ ys) y all h = elim (Contains-cons_cases z ys y h) [
  | inl e ↦ (w, Contains-first w xs, subst (λ v. R w v) e all.0)
  | inr rest ↦ let found = zip_member R xs ys y all.1 rest in (found.0, Contains-later w xs found.0 found.1, found.2)
]

-- a member of the first is related to one of the second
pub zip_partner : {X Y : Type 0} (R : X → Y → Type 0) (xs : List X) (ys : List Y) (x : X) → AllZip R xs ys
    → Contains xs x → (y : Y) × Contains ys y × R x y
zip_partner R [] [] x all h = (Contains-none x h)
zip_partner R [] (z ∷ ys) x all h = absurd all
zip_partner R (w ∷ xs) [] x all h = absurd all
zip_partner R (w ∷ xs) (z ∷ ys) x all h = elim (Contains-cons_cases w xs x h) [
  | inl e ↦ (z, Contains-first z ys, subst (λ v. R v z) e all.0)
  | inr rest ↦ let found = zip_partner R xs ys x all.1 rest in (found.0, Contains-later z ys found.0 found.1, found.2)
]

-- where what is related is determined, so is the list
pub zip_one : {X Y : Type 0} (R : X → Y → Type 0) (xs : List X) (ys zs : List Y)
    → ((x : X) (y z : Y) → R x y → R x z → y ≡ z) → AllZip R xs ys → AllZip R xs zs → ys ≡ zs
zip_one R [] [] [] one a b = refl
zip_one R [] [] (z ∷ zs) one a b = absurd b
zip_one R [] (y ∷ ys) zs one a b = absurd a
zip_one R (x ∷ xs) [] zs one a b = absurd a
zip_one R (x ∷ xs) (y ∷ ys) [] one a b = absurd b
zip_one R (x ∷ xs) (y ∷ ys) (z ∷ zs) one a b =
    ap (λ w. w ∷ ys) (one x y z a.0 b.0) ∙ ap (λ ws. z ∷ ws) (zip_one R xs ys zs one a.1 b.1)
