-- First appearances, and lists that grow by what is new.
use Rattle.std.proofs.Common.{◌≡◌, ◌≢◌, zero, suc, List, [], ◌∷◌, ◌++◌, Bool, true, false, cond, filter}
use Rattle.std.proofs.Common.{Option, Some, None, Contains, AllPairs, refl, sym, ap, subst, ◌∙◌}
use Rattle.std.proofs.Common.{arith, inl, inr, ◌⊎◌, true≢false}
use Rattle.std.specs.Prelude.{not, ◌||◌, if◌then◌else◌, slice_index_or}
use Rattle.std.specs.List.{cons_option, filter_map, list_any}
use Rattle.std.specs.Option.{option_to_list}
use Rattle.std.proofs.lemmas.List.{append-nil, append_assoc}
use Rattle.std.proofs.lemmas.List.Elements.{Contains-get_or}
use Rattle.std.proofs.lemmas.List.Elements.{filter-append}
use Rattle.ly_join.specs.Numbering.{first_appearances}
use Rattle.ly_join.specs.Private.Numbering.{with_all, with_one}
use Rattle.ly_base.proofs.MemberLemmas.{Contains-cons_cases, Contains-first, Contains-later, Contains-none}

-- what is made of one item
pub filter_one : {X Y : Type 0} (h : X → Option Y) (x : X) → filter_map h (x ∷ []) ≡ option_to_list (h x)
filter_one {Y = Y} h x = by (h x)
  where
    by : (o : Option Y) → cons_option o [] ≡ option_to_list o
    by None = refl
    by (Some y) = refl

-- a test is true of a member, or of none
pub any_member : {X : Type 0} (q : X → Bool) (xs : List X) (x : X) → Contains xs x → q x ≡ true → list_any q xs ≡ true
any_member q [] x h is = (Contains-none x h)
any_member q (y ∷ xs) x h is = by (Contains-cons_cases y xs x h) (q y) refl (λ rest. any_member q xs x rest is)
  where
    by : (y ≡ x) ⊎ Contains xs x → (b : Bool) → q y ≡ b → (Contains xs x → list_any q xs ≡ true)
        → (b || list_any q xs) ≡ true
    by w true e later = refl
    by (inl same) false e later = absurd (true≢false (sym is ∙ (ap q (sym same) ∙ e)))
    by (inr rest) false e later = later rest

any_found : {X : Type 0} (q : X → Bool) (xs : List X) → list_any q xs ≡ true → (x : X) × Contains xs x × (q x ≡ true)
any_found q [] h = absurd (true≢false (sym h))
any_found {X} q (y ∷ xs) h = by (q y) refl h (any_found q xs)
  where
    by : (b : Bool) → q y ≡ b → (b || list_any q xs) ≡ true
        → (list_any q xs ≡ true → (x : X) × Contains xs x × (q x ≡ true))
        → (x : X) × Contains (y ∷ xs) x × (q x ≡ true)
    by true e g later = (y, Contains-first y xs, e)
    by false e g later = let found = later g in (found.0, Contains-later y xs found.0 found.1, found.2)

-- a filter that keeps what a test is true of doesn't change whether there is such
any_filter : {X : Type 0} (q p : X → Bool) (xs : List X) → ((z : X) → q z ≡ true → p z ≡ true)
    → list_any q (filter p xs) ≡ list_any q xs
any_filter q p [] keeps = refl
any_filter q p (z ∷ xs) keeps = by (p z) refl (q z) refl (any_filter q p xs keeps)
  where
    by : (b : Bool) → p z ≡ b → (c : Bool) → q z ≡ c → list_any q (filter p xs) ≡ list_any q xs
        → list_any q (cond b (z ∷ filter p xs) (filter p xs)) ≡ (c || list_any q xs)
    by true e c f rest = ap (λ d. d || list_any q (filter p xs)) f ∙ ap (λ d. c || d) rest
    by false e true f rest = absurd (true≢false (sym (keeps z f) ∙ e))
    by false e false f rest = rest

-- what a filter keeps
pub filter_in : {X : Type 0} (p : X → Bool) (xs : List X) (x : X) → Contains xs x → p x ≡ true
    → Contains (filter p xs) x
filter_in p [] x h is = (Contains-none x h)
filter_in p (y ∷ xs) x h is = by (Contains-cons_cases y xs x h) (p y) refl (λ rest. filter_in p xs x rest is)
  where
    by : (y ≡ x) ⊎ Contains xs x → (b : Bool) → p y ≡ b → (Contains xs x → Contains (filter p xs) x)
        → Contains (cond b (y ∷ filter p xs) (filter p xs)) x
    by (inl same) true e later = subst (λ z. Contains (y ∷ filter p xs) z) same (Contains-first y (filter p xs))
    by (inl same) false e later = absurd (true≢false (sym is ∙ (ap p (sym same) ∙ e)))
    by (inr rest) true e later = Contains-later y (filter p xs) x (later rest)
    by (inr rest) false e later = later rest

pub in_filter : {X : Type 0} (p : X → Bool) (xs : List X) (x : X) → Contains (filter p xs) x
    → Contains xs x × (p x ≡ true)
in_filter p [] x h = (Contains-none x h)
in_filter {X} p (y ∷ xs) x h = by (p y) refl h (in_filter p xs x)
  where
    by : (b : Bool) → p y ≡ b → Contains (cond b (y ∷ filter p xs) (filter p xs)) x
        → (Contains (filter p xs) x → Contains xs x × (p x ≡ true)) → Contains (y ∷ xs) x × (p x ≡ true)
    by true e g later = elim (Contains-cons_cases y (filter p xs) x g) [
      | inl same ↦ (subst (λ z. Contains (y ∷ xs) z) same (Contains-first y xs), ap p (sym same) ∙ e)
      | inr rest ↦ let found = later rest in (Contains-later y xs x found.0, found.1)
    ]
    by false e g later = let found = later g in (Contains-later y xs x found.0, found.1)

-- what holds of each pair of a list, by its first and the rest
pub pairs_none : {X : Type 0} (R : X → X → Type 0) → AllPairs R []
pairs_none R i j d less within = absurd (omega (arith, within))

pub pairs_cons : {X : Type 0} (R : X → X → Type 0) (x : X) (xs : List X) → ((y : X) → Contains xs y → R x y)
    → AllPairs R xs → AllPairs R (x ∷ xs)
pairs_cons R x xs first rest zero zero d less within = absurd (omega (arith, less))
pairs_cons R x xs first rest zero (suc j) d less within =
    first (slice_index_or xs j d) (Contains-get_or xs j d (omega (arith, within)))
pairs_cons R x xs first rest (suc i) zero d less within = absurd (omega (arith, less))
pairs_cons R x xs first rest (suc i) (suc j) d less within = rest i j d (omega (arith, less)) (omega (arith, within))

pub pairs_rest : {X : Type 0} (R : X → X → Type 0) (x : X) (xs : List X) → AllPairs R (x ∷ xs) → AllPairs R xs
pairs_rest R x xs all i j d less within = all (suc i) (suc j) d (omega (arith, less)) (omega (arith, within))

pub pairs_first : {X : Type 0} (R : X → X → Type 0) (x : X) (xs : List X) (y : X) → AllPairs R (x ∷ xs)
    → Contains xs y → R x y
pairs_first R x xs y all there = subst (R x) there.2 (all 0 (suc there.0) y (omega arith) (omega (arith, there.1)))

-- of each pair of what a filter keeps
pub pairs_filter : {X : Type 0} (R : X → X → Type 0) (p : X → Bool) (xs : List X) → AllPairs R xs
    → AllPairs R (filter p xs)
pairs_filter R p [] all = pairs_none R
pairs_filter R p (x ∷ xs) all = by (p x) (pairs_filter R p xs (pairs_rest R x xs all))
  where
    by : (b : Bool) → AllPairs R (filter p xs) → AllPairs R (cond b (x ∷ filter p xs) (filter p xs))
    by true rest = pairs_cons R x (filter p xs) (λ y there. pairs_first R x xs y all (in_filter p xs y there).0) rest
    by false rest = rest

module _ {X : Type 0} (same : X → X → Bool) where
  -- with all of a list and one more, or with all of two lists
  pub all_push : (ys xs : List X) (x : X) → with_all same ys (xs ++ x ∷ []) ≡ with_one same (with_all same ys xs) x
  all_push ys [] x = refl
  all_push ys (z ∷ xs) x = all_push (with_one same ys z) xs x

  pub all_append : (ys xs zs : List X) → with_all same ys (xs ++ zs) ≡ with_all same (with_all same ys xs) zs
  all_append ys [] zs = refl
  all_append ys (x ∷ xs) zs = all_append (with_one same ys x) xs zs

module _ {X : Type 0} (same : X → X → Bool) (sound : (x y : X) → same x y ≡ true → x ≡ y)
    (itself : (x : X) → same x x ≡ true) where
  -- different members are told apart
  apart : (x y : X) → same x y ≡ false → same y x ≡ false
  apart x y e = by (same y x) refl
    where
      by : (b : Bool) → same y x ≡ b → b ≡ false
      by true f = absurd (true≢false (sym (itself x) ∙ (ap (same x) (sym (sound y x f)) ∙ e)))
      by false f = refl

  -- one that is a member already adds nothing
  pub with_old : (ys : List X) (x : X) → Contains ys x → with_one same ys x ≡ ys
  with_old ys x h = ap (λ b. if b then ys else ys ++ x ∷ []) (any_member (same x) ys x h (itself x))

  -- one that is new comes last
  pub with_new : (ys : List X) (x : X) → (Contains ys x → ⊥) → with_one same ys x ≡ ys ++ x ∷ []
  with_new ys x new = by (list_any (same x) ys) refl
    where
      by : (b : Bool) → list_any (same x) ys ≡ b → (if b then ys else ys ++ x ∷ []) ≡ ys ++ x ∷ []
      by true e =
          let found = any_found (same x) ys e in
          absurd (new (subst (Contains ys) (sym (sound x found.0 found.2)) found.1))
      by false e = refl

  first_more : (y : X) (ys : List X) (x : X)
      → y ∷ filter (λ z. not (same y z)) (with_one same ys x) ≡ with_one same (y ∷ filter (λ z. not (same y z)) ys) x
  first_more y ys x = by (same x y) refl (list_any (same x) ys) refl
    where
      p : X → Bool
      p z = not (same y z)

      keeps : same x y ≡ false → list_any (same x) (filter p ys) ≡ list_any (same x) ys
      keeps e = any_filter (same x) p ys (λ z h. ap not (ap (same y) (sym (sound x z h)) ∙ apart x y e))

      by : (b : Bool) → same x y ≡ b → (c : Bool) → list_any (same x) ys ≡ c
          → y ∷ filter p (if c then ys else ys ++ x ∷ [])
          ≡ (if b || list_any (same x) (filter p ys) then y ∷ filter p ys else (y ∷ filter p ys) ++ x ∷ [])
      by true e true f = refl
      by true e false f =
          let out : p x ≡ false = ap not (ap (λ z. same z x) (sym (sound x y e)) ∙ itself x) in
          ap (λ zs. y ∷ zs) (filter-append p ys (x ∷ [])
          ∙ (ap (λ d. filter p ys ++ cond d (x ∷ []) []) out ∙ append-nil (filter p ys)))
      by false e true f = sym (ap (λ d. if d then y ∷ filter p ys else (y ∷ filter p ys) ++ x ∷ []) (keeps e ∙ f))
      by false e false f =
          let in' : p x ≡ true = ap not (apart x y e) in
          ap (λ zs. y ∷ zs) (filter-append p ys (x ∷ []) ∙ ap (λ d. filter p ys ++ cond d (x ∷ []) []) in')
          ∙ sym (ap (λ d. if d then y ∷ filter p ys else (y ∷ filter p ys) ++ x ∷ []) (keeps e ∙ f))

  -- the first appearances of one more
  pub first_push : (xs : List X) (x : X)
      → first_appearances same (xs ++ x ∷ []) ≡ with_one same (first_appearances same xs) x
  first_push [] x = refl
  first_push (y ∷ xs) x = ap (λ ys. y ∷ filter (λ z. not (same y z)) ys) (first_push xs x)
      ∙ first_more y (first_appearances same xs) x

  -- and of all that appear
  pub first_append : (xs ys : List X)
      → first_appearances same (xs ++ ys) ≡ with_all same (first_appearances same xs) ys
  first_append xs [] = ap (first_appearances same) (append-nil xs)
  first_append xs (y ∷ ys) = ap (first_appearances same) (sym (append_assoc xs (y ∷ []) ys))
      ∙ (first_append (xs ++ y ∷ []) ys ∙ ap (λ zs. with_all same zs ys) (first_push xs y))

  -- the same members
  pub first_in : (xs : List X) (x : X) → Contains xs x → Contains (first_appearances same xs) x
  first_in [] x h = (Contains-none x h)
  first_in (y ∷ xs) x h = by (Contains-cons_cases y xs x h) (same y x) refl (first_in xs x)
    where
      rest : List X
      rest = filter (λ z. not (same y z)) (first_appearances same xs)

      by : (y ≡ x) ⊎ Contains xs x → (b : Bool) → same y x ≡ b
          → (Contains xs x → Contains (first_appearances same xs) x) → Contains (y ∷ rest) x
      by (inl e) b f later = subst (λ z. Contains (y ∷ rest) z) e (Contains-first y rest)
      by (inr g) true f later = subst (λ z. Contains (y ∷ rest) z) (sound y x f) (Contains-first y rest)
      by (inr g) false f later = Contains-later y rest x
          (filter_in (λ z. not (same y z)) (first_appearances same xs) x (later g) (ap not f))

  pub in_first : (xs : List X) (x : X) → Contains (first_appearances same xs) x → Contains xs x
  in_first [] x h = Contains-none x h
  in_first (y ∷ xs) x h =
      elim (Contains-cons_cases y (filter (λ z. not (same y z)) (first_appearances same xs)) x h) [
        | inl e ↦ subst (λ z. Contains (y ∷ xs) z) e (Contains-first y xs)
        | inr g ↦ Contains-later y xs x
            (in_first xs x (in_filter (λ z. not (same y z)) (first_appearances same xs) x g).0)
      ]

  -- each once
  pub first_once : (xs : List X) → AllPairs (λ x y. x ≢ y) (first_appearances same xs)
  first_once [] = pairs_none (λ x y. x ≢ y)
  first_once (y ∷ xs) =
      pairs_cons (λ x z. x ≢ z) y (filter (λ z. not (same y z)) (first_appearances same xs))
      (λ z there e. let kept = (in_filter (λ z. not (same y z)) (first_appearances same xs) z there).1 in
      let out : not (same y z) ≡ false = ap not (ap (same y) (sym e) ∙ itself y) in
      true≢false (sym kept ∙ out))
      (pairs_filter (λ x z. x ≢ z) (λ z. not (same y z)) (first_appearances same xs) (first_once xs))
