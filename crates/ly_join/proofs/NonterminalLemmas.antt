-- Names in a set that keeps their order.
use Rattle.std.proofs.Common.{◌≡◌, ◌∙◌, ◌-◌, ℕ, List, [], ◌∷◌, ◌++◌, Bool, true, false, Some, None, refl, sym, ap}
use Rattle.std.proofs.Common.{length, map, slice_get, subst, position, get_or, rules, Contains, true≢false}
use Rattle.std.proofs.lemmas.Iterator.Adapters.{position_from-zero}
use Rattle.std.proofs.lemmas.List.{map-append}
use Rattle.std.proofs.lemmas.List.Quantifiers.{position-Some}
use Rattle.std.proofs.lemmas.Option.{slice_get-get_or, slice_get-map}
use Rattle.std.specs.Prelude.{◌||◌, if◌then◌else◌, option_map}
use Rattle.std.specs.Bool.{OnTrue}
use Rattle.std.specs.List.{list_any}
use Rattle.std.specs.Str.{bytes_eq}
use Rattle.ly_base.proofs.KeyLemmas.{none_from}
use Rattle.ly_join.specs.Private.Numbering.{with_one}
use Rattle.ly_join.proofs.ListLemmas.{mapped_in, member_at}
use Rattle.ly_join.proofs.NumberingLemmas.{any_member}
use Rattle.ly_join.proofs.TableLemmas.{bytes_itself, same_bytes}

-- a test of what a list is mapped to
any_map : {K : Type 0} (f : K → List ℕ) (p : List ℕ → Bool) (ks : List K)
    → list_any (λ k. p (f k)) ks ≡ list_any p (map f ks)
any_map f p [] = refl
any_map f p (k ∷ ks) = ap (λ b. p (f k) || b) (any_map f p ks)

if_map : {K : Type 0} (f : K → List ℕ) (b : Bool) (ks : List K) (k : K)
    → map f (if b then ks else ks ++ k ∷ []) ≡ (if b then map f ks else map f ks ++ f k ∷ [])
if_map f true ks k = refl
if_map f false ks k = map-append f ks (k ∷ [])

-- the names after one more key
pub names_after : {K : Type 0} (f : K → List ℕ) (ks : List K) (k : K)
    → map f (if list_any (λ x. bytes_eq (f k) (f x)) ks then ks else ks ++ k ∷ [])
    ≡ with_one bytes_eq (map f ks) (f k)
names_after f ks k = if_map f (list_any (λ x. bytes_eq (f k) (f x)) ks) ks k
    ∙ ap (λ b. if b then map f ks else map f ks ++ f k ∷ []) (any_map f (bytes_eq (f k)) ks)

pub on_true : (b : Bool) {P : Type 0} → (b ≡ true → P) → OnTrue b P
on_true true h = h refl
on_true false h = tt

-- a name that is there changes nothing
pub with_known : (ns : List (List ℕ)) (name : List ℕ) → Contains ns name → with_one bytes_eq ns name ≡ ns
with_known ns name there =
    ap (λ b. if b then ns else ns ++ name ∷ []) (any_member (bytes_eq name) ns name there (bytes_itself name))

-- the name that came last is there
pub last_known : {K : Type 0} (f : K → List ℕ) (ks shown : List K) (last : K) (name : List ℕ) (ns : List (List ℕ))
    → shown ≡ ks → map f ks ≡ ns → slice_get shown (length shown - 1) ≡ Some last → f last ≡ name → Contains ns name
last_known f ks shown last name ns same view at is = subst (Contains ns) is (subst (λ xs. Contains xs (f last))
    (ap (map f) same ∙ view) (mapped_in f shown last (member_at shown (length shown - 1) last at)))

-- the place that a test finds has the name
pub found_name : {K : Type 0} (f : K → List ℕ) (ks : List K) (name : List ℕ) (n : ℕ)
    → position (λ k. bytes_eq name (f k)) ks ≡ Some n → slice_get (map f ks) n ≡ Some name
found_name f [] name n h = absurd (search rules)
found_name f (k ∷ ks) name n h =
    let at = position-Some (λ x. bytes_eq name (f x)) (k ∷ ks) n k h in
    slice_get-map f (k ∷ ks) n ∙ (ap (option_map f) (slice_get-get_or (k ∷ ks) n k at.0)
    ∙ ap Some (sym (same_bytes name (f (get_or (k ∷ ks) n k)) at.1)))

-- a name that no test finds isn't there
pub absent_name : {K : Type 0} (f : K → List ℕ) (ks : List K) (name : List ℕ)
    → position (λ k. bytes_eq name (f k)) ks ≡ None → Contains (map f ks) name → ⊥
absent_name f ks name none there =
    let off = none_from (λ k. bytes_eq name (f k)) 0 ks
    (sym (position_from-zero (λ k. bytes_eq name (f k)) ks) ∙ none) in
    let on = any_member (bytes_eq name) (map f ks) name there (bytes_itself name) in
    true≢false (sym on ∙ (sym (any_map f (bytes_eq name) ks) ∙ off))
