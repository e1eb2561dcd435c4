-- Keys with values beside them, looked up by the bytes of a key.
use Rattle.std.proofs.Common.{◌≡◌, ◌⊎◌, List, [], ◌∷◌, ◌++◌, length, sym, ap, ◌∙◌, ◌+◌, ℕ, Bool, refl, arith}
use Rattle.std.proofs.Common.{inl, inr, subst}
use Rattle.std.specs.Prelude.{◌||◌, None, Some, true, false, if◌then◌else◌, cond, map, position, zip}
use Rattle.std.specs.List.{list_any, position_from}
use Rattle.std.specs.HashMap.{HashMap, UpdatesBy}
use Rattle.std.specs.Map.{AreApart, IsKeyTest, KeepsOthers, lookup}
use Rattle.std.specs.Str.{bytes_eq}
use Rattle.std.proofs.lemmas.Bool.{cases_Bool}
use Rattle.std.proofs.lemmas.Iterator.Adapters.{position_from-zero}
use Rattle.std.proofs.lemmas.Slice.Eq.{bytes_eq-Decides}
use Rattle.ly_base.specs.Keys.{PutsAt}

position_zip : {K V : Type 0} (p : List ℕ → Bool) (f : K → List ℕ) (ks : List K) (vs : List V) (n : ℕ)
    → length ks ≡ length vs
    → position_from (λ k. p (f k)) n ks ≡ position_from (λ (c : List ℕ × V). p c.0) n (zip (map f ks) vs)
position_zip p f [] vs n e = refl
position_zip p f (k ∷ ks) [] n e = absurd (omega (arith, e))
position_zip p f (k ∷ ks) (x ∷ vs) n e
    = ap (λ o. cond (p (f k)) (Some n) o) (position_zip p f ks vs (n + 1) (omega (arith, e)))

-- the number of a name among them
pub number_zip : {K V : Type 0} (f : K → List ℕ) (name : List ℕ) (ks : List K) (vs : List V) → length ks ≡ length vs
    → position (λ k. bytes_eq name (f k)) ks ≡ position (λ (c : List ℕ × V). bytes_eq name c.0) (zip (map f ks) vs)
number_zip {V = V} f name ks vs e = position_from-zero (λ k. bytes_eq name (f k)) ks
    ∙ (position_zip (bytes_eq name) f ks vs 0 e
    ∙ sym (position_from-zero (λ (c : List ℕ × V). bytes_eq name c.0) (zip (map f ks) vs)))

-- where no test finds a place, none passes
pub none_from : {K : Type 0} (t : K → Bool) (n : ℕ) (ks : List K) → position_from t n ks ≡ None → list_any t ks ≡ false
none_from t n [] e = refl
none_from t n (k ∷ ks) e = by (t k) e (none_from t (n + 1) ks)
  where
    by : (b : Bool) → cond b (Some n) (position_from t (n + 1) ks) ≡ None
        → (position_from t (n + 1) ks ≡ None → list_any t ks ≡ false) → (b || list_any t ks) ≡ false
    by true e f = absurd (cc)
    by false e f = f e

-- the keys with one that is new
pub new_key : {K V : Type 0} (f : K → List ℕ) (ks : List K) (vs : List V) (k : K) → length ks ≡ length vs
    → position (λ (c : List ℕ × V). bytes_eq (f k) c.0) (zip (map f ks) vs) ≡ None
    → (if list_any (λ x. bytes_eq (f k) (f x)) ks then ks else ks ++ k ∷ []) ≡ ks ++ k ∷ []
new_key f ks vs k e none = ap (λ b. if b then ks else ks ++ k ∷ []) (none_from (λ x. bytes_eq (f k) (f x)) 0 ks
    (sym (position_from-zero (λ x. bytes_eq (f k) (f x)) ks) ∙ (number_zip f (f k) ks vs e ∙ none)))

pub zip_push : {K V : Type 0} (f : K → List ℕ) (ks : List K) (vs : List V) (k : K) (x : V) → length ks ≡ length vs
    → zip (map f (ks ++ k ∷ [])) (vs ++ x ∷ []) ≡ zip (map f ks) vs ++ (f k, x) ∷ []
zip_push f [] [] k x e = refl
zip_push f [] (y ∷ vs) k x e = absurd (omega (arith, e))
zip_push f (j ∷ ks) [] k x e = absurd (omega (arith, e))
zip_push f (j ∷ ks) (y ∷ vs) k x e = ap (λ ns. (f j, y) ∷ ns) (zip_push f ks vs k x (omega (arith, e)))

pub length_zip : {K V : Type 0} (f : K → List ℕ) (ks : List K) (vs : List V) → length ks ≡ length vs
    → length vs ≡ length (zip (map f ks) vs)
length_zip f [] [] e = refl
length_zip f [] (y ∷ vs) e = absurd (omega (arith, e))
length_zip f (k ∷ ks) [] e = absurd (omega (arith, e))
length_zip f (k ∷ ks) (y ∷ vs) e = omega (arith, length_zip f ks vs (omega (arith, e)))

-- what a query for another key finds stays
kept : {K V : Type 0} (eq : K → K → Bool) (test other : K → Bool) (es ds : List (K × V)) → KeepsOthers eq test es ds
    → IsKeyTest eq other → AreApart test other → lookup other ds ≡ lookup other es
unfolding KeepsOthers
kept eq test other es ds h = h other

-- a value that is put at a name is found there
pub found_put : {K V S : Type 0} (f : K → List ℕ) (m n : HashMap K V S) (key name : List ℕ) (v : V) → key ≡ name
    → UpdatesBy (λ x y. bytes_eq (f x) (f y)) (λ x. bytes_eq key (f x)) m n (Some v)
    → PutsAt f name v m.entries n.entries
found_put f m n key name v same updates other = by (cases_Bool (bytes_eq other name))
  where
    is : (s t : List ℕ) → bytes_eq s t ≡ true → s ≡ t
    is s t = (bytes_eq-Decides s t).0

    by : (bytes_eq other name ≡ true) ⊎ (bytes_eq other name ≡ false) → lookup (λ x. bytes_eq other (f x)) n.entries
        ≡ cond (bytes_eq other name) (Some v) (lookup (λ x. bytes_eq other (f x)) m.entries)
    by (inl e) = rw (e)
        (subst (λ s. lookup (λ x. bytes_eq s (f x)) n.entries ≡ Some v) (same ∙ sym (is other name e)) updates.1)
    by (inr e) = rw (e) (kept (λ x y. bytes_eq (f x) (f y)) (λ x. bytes_eq key (f x)) (λ x. bytes_eq other (f x))
        m.entries n.entries updates.3 (λ x y passes. ap (λ s. bytes_eq s (f y)) (is other (f x) passes))
        (λ x passes. subst (λ s. bytes_eq other s ≡ false) (sym same ∙ is key (f x) passes) e))
