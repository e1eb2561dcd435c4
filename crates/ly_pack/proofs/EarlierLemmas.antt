-- Rows that were placed before, by their columns.
use Rattle.std.proofs.Common.{◌≡◌, ◌∙◌, ℕ, List, [], ◌∷◌, Bool, true, Some, Contains, ◌⊎◌, inl, inr}
use Rattle.std.proofs.Common.{refl, sym, ap, subst, nat_eq}
use Rattle.std.specs.Map.{lookup}
use Rattle.std.proofs.lemmas.Option.{same_Some}
use lib.Pointwise.{pointwise}
use Rattle.std.proofs.lemmas.Bool.{and_parts, cases_Bool, eq-eqb, eqb-true}
use Rattle.indexmap.specs.IndexMap.{insert_entry}
use Rattle.ly_base.proofs.MemberLemmas.{Contains-cons_cases, Contains-first, Contains-later, Contains-one}

-- lists of columns that pass the test are one
pub same_columns : (s t : List ℕ) → pointwise nat_eq s t ≡ true → s ≡ t
same_columns [] [] h = refl
same_columns [] (y ∷ t) h = absurd (cc)
same_columns (x ∷ s) [] h = absurd (cc)
same_columns (x ∷ s) (y ∷ t) h =
    let p = and_parts (nat_eq x y) (pointwise nat_eq s t) h in
    ap (λ z. z ∷ s) (eqb-true x y p.0) ∙ ap (λ r. y ∷ r) (same_columns s t p.1)

-- what a look-up finds stands beside a key that passes
pub looked_up : {K V : Type 0} (test : K → Bool) (es : List (K × V)) (v : V) → lookup test es ≡ Some v
    → (k : K) × Contains es (k, v) × (test k ≡ true)
looked_up test [] v h = absurd (cc)
looked_up test (e ∷ es) v h = elim (cases_Bool (test e.0)) [
  | inl is ↦ let same : e.1 ≡ v = same_Some e.1 v (rw is at h) in
      (e.0, subst (λ w. Contains (e ∷ es) (e.0, w)) same (Contains-first e es), is)
  | inr not ↦ let later = looked_up test es v (rw not at h) in
      (later.0, Contains-later e es (later.0, v) later.1, later.2)
]

-- an entry after an insertion is an earlier one, or it has the value and a key that is equal to the inserted one
pub inserted : {K V : Type 0} (eq : K → K → Bool) (itself : (k : K) → eq k k ≡ true) (es : List (K × V)) (k : K) (v : V)
    (q : K) (w : V) → Contains (insert_entry eq es k v) (q, w) → Contains es (q, w) ⊎ ((eq k q ≡ true) × (w ≡ v))
inserted eq itself [] k v q w h = let same = Contains-one (k, v) (q, w) h in
    inr (ap (λ p. eq k p.0) (sym same) ∙ itself k, ap (λ p. p.1) (sym same))
inserted eq itself (e ∷ es) k v q w h = elim (cases_Bool (eq k e.0)) [
  | inl is ↦ elim (Contains-cons_cases (e.0, v) es (q, w) (rw is at h)) [
    | inl same ↦ inr (ap (λ p. eq k p.0) (sym same) ∙ is, ap (λ p. p.1) (sym same))
    | inr later ↦ inl (Contains-later e es (q, w) later)
  ]
  | inr not ↦ elim (Contains-cons_cases e (insert_entry eq es k v) (q, w) (rw not at h)) [
    | inl same ↦ inl (subst (Contains (e ∷ es)) same (Contains-first e es))
    | inr later ↦ elim (inserted eq itself es k v q w later) [
      | inl was ↦ inl (Contains-later e es (q, w) was)
      | inr new ↦ inr new
    ]
  ]
]

pub columns_themselves : (s : List ℕ) → pointwise nat_eq s s ≡ true
columns_themselves [] = refl
columns_themselves (x ∷ s) = rw (eq-eqb x x refl, columns_themselves s) refl
