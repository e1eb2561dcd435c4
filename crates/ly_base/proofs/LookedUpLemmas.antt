-- Lists that are numbered in the order in which they came, and looked up by a test of their elements.
use Rattle.std.proofs.Common.{◌≡◌, ◌<◌, ◌∙◌, ℕ, zero, suc, List, [], ◌∷◌, ◌++◌, Bool, true, false, Option, Some, None}
use Rattle.std.proofs.Common.{refl, sym, ap, subst, arith, inl, inr, map, position, get_or, length, is_some}
use Rattle.std.specs.Prelude.{MatchOption, if◌then◌else◌}
use Rattle.std.specs.List.{list_any}
use lib.Pointwise.{pointwise}
use Rattle.std.proofs.lemmas.Bool.{and_parts, cases_Bool}
use Rattle.std.proofs.lemmas.List.{get_or-map, length-map, map_push}
use Rattle.std.proofs.lemmas.List.Quantifiers.{position-Some}
use Rattle.ly_base.specs.Keys.{IsAbsent}

-- lists whose elements are equal, by a test, are equal
pub lists_same : {X : Type 0} (test : X → X → Bool) → ((x y : X) → test x y ≡ true → x ≡ y) → (s t : List X)
    → pointwise test s t ≡ true → s ≡ t
lists_same test one [] [] h = refl
lists_same test one [] (y ∷ t) h = absurd (cc)
lists_same test one (x ∷ s) [] h = absurd (cc)
lists_same test one (x ∷ s) (y ∷ t) h =
    let p = and_parts (test x y) (pointwise test s t) h in
    ap (λ z. z ∷ s) (one x y p.0) ∙ ap (λ r. y ∷ r) (lists_same test one s t p.1)

module _ {X : Type 0} (test : X → X → Bool) (one : (x y : X) → test x y ≡ true → x ≡ y)
    (itself : (x : X) → test x x ≡ true) where
  key_same : (s : List X) → pointwise test s s ≡ true
  key_same [] = refl
  key_same (x ∷ s) = rw (itself x, key_same s) refl

  module _ {K : Type 0} (f : K → List X) (key : List X) where
    -- what no key passes isn't among them
    absent_from_none : (ks : List K) → list_any (λ k. pointwise test key (f k)) ks ≡ false → IsAbsent (map f ks) key
    absent_from_none [] e n l g = omega (arith, l)
    absent_from_none (k ∷ ks) e zero l g =
        let passes : pointwise test key (f k) ≡ true
        = subst (λ t. pointwise test key t ≡ true) (sym g) (key_same key) in
        let off : true ≡ false = rw passes at e in cc
    absent_from_none (k ∷ ks) e (suc n) l g = elim (cases_Bool (pointwise test key (f k))) [
      | inl passes ↦ let off : true ≡ false = rw passes at e in cc
      | inr not ↦ absent_from_none ks (rw not at e) n (omega (arith, l)) g
    ]

    -- and what isn't among them none passes
    none_from_absent : (ks : List K) → IsAbsent (map f ks) key → list_any (λ k. pointwise test key (f k)) ks ≡ false
    none_from_absent [] h = refl
    none_from_absent (k ∷ ks) h = elim (cases_Bool (pointwise test key (f k))) [
      | inl passes ↦ absurd (h 0 (omega arith) (sym (lists_same test one key (f k) passes)))
      | inr not ↦ rw not (none_from_absent ks (λ n l e. h (suc n) (omega (arith, l)) e))
    ]

    found_at : (ks : List K) (n : ℕ) → position (λ k. pointwise test key (f k)) ks ≡ Some n
        → (n < length (map f ks)) × (get_or (map f ks) n [] ≡ key)
    found_at [] n e = absurd (cc)
    found_at (k ∷ ks) n e = let h = position-Some (λ k. pointwise test key (f k)) (k ∷ ks) n k e in (
      rw (length-map (k ∷ ks) f) h.0,
      get_or-map f (k ∷ ks) n k [] h.0 ∙ sym (lists_same test one key (f (get_or (k ∷ ks) n k)) h.1),
    )

    -- what a look-up answers
    pub found : (ks : List K) (o : Option ℕ) → o ≡ position (λ k. pointwise test key (f k)) ks
        → is_some o ≡ list_any (λ k. pointwise test key (f k)) ks
        → MatchOption o (IsAbsent (map f ks) key) (λ n. (n < length (map f ks)) × (get_or (map f ks) n [] ≡ key))
    found ks None e h = absent_from_none ks (sym h)
    found ks (Some n) e h = found_at ks n (sym e)

    -- a key that isn't among them goes to the end
    pub pushed : (ks : List K) (k : K) → f k ≡ key → IsAbsent (map f ks) key
        → map f (if list_any (λ x. pointwise test (f k) (f x)) ks then ks else ks ++ k ∷ []) ≡ map f ks ++ key ∷ []
    pushed ks k e h = rw (e, none_from_absent ks h) (map_push f ks k ∙ ap (λ x. map f ks ++ x ∷ []) e)
