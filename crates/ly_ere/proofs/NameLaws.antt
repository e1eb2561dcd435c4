-- A name stands for its definition.
use Rattle.std.proofs.lemmas.Option.{slice_get_within}
use Rattle.std.proofs.Common.{slice_get, Some, ◌↔◌, ◌<◌, length, ◌≡◌, inl, inr, ℕ, zero, suc, ◌+◌, ◌-◌, ◌<◌, ◌≤◌, List}
use Rattle.std.proofs.Common.{length, refl, subst, arith}
use Rattle.ly_ere.specs.Expression.{Expression, set, empty, concat, either, star, plus, optional, repeat, name}
use Rattle.ly_ere.specs.Expression.{MatchesUnder, Concatenated, NamedUpTo, Matches}
use Rattle.ly_ere.specs.Names.{AreOrdered, UsesBelow, NameIsDefinition}

-- each string of one set is of the other
pub joined_map : (L M : List ℕ → Type 0) → ((w : List ℕ) → L w → M w) → (k : ℕ) (w : List ℕ) → Concatenated L k w
    → Concatenated M k w
joined_map L M f zero w j = j
joined_map L M f (suc k) w j = (j.0, j.1, j.2, f j.0 j.3, joined_map L M f k j.1 j.4)

-- only the names that it uses matter
pub change : (D E : ℕ → List ℕ → Type 0) (n : ℕ) → ((x : ℕ) (w : List ℕ) → x < n → D x w → E x w)
    → (r : Expression) (w : List ℕ) → UsesBelow n r → MatchesUnder D r w → MatchesUnder E r w
change D E n f (set bytes) w u h = h
change D E n f empty w u h = h
change D E n f (concat r s) w u h = (h.0, h.1, h.2, change D E n f r h.0 u.0 h.3, change D E n f s h.1 u.1 h.4)
change D E n f (either r s) w u (inl h) = inl (change D E n f r w u.0 h)
change D E n f (either r s) w u (inr h) = inr (change D E n f s w u.1 h)
change D E n f (star r) w u h
    = (h.0, joined_map (MatchesUnder D r) (MatchesUnder E r) (λ v k. change D E n f r v u k) h.0 w h.1)
change D E n f (plus r) w u h
    = (h.0, h.1, joined_map (MatchesUnder D r) (MatchesUnder E r) (λ v k. change D E n f r v u k) h.0 w h.2)
change D E n f (optional r) w u (inl h) = inl h
change D E n f (optional r) w u (inr h) = inr (change D E n f r w u h)
change D E n f (repeat a b r) w u h
    = (h.0, h.1, h.2, joined_map (MatchesUnder D r) (MatchesUnder E r) (λ v k. change D E n f r v u k) h.0 w h.3)
change D E n f (name x) w u h = f x w u h

up : (ds : List Expression) (n k x : ℕ) (w : List ℕ) → x < n → NamedUpTo ds n x w → NamedUpTo ds (k + n) x w
up ds n zero x w less h = subst (λ m. NamedUpTo ds m x w) (omega arith) h
up ds n (suc k) x w less h = let e : suc (k + n) ≡ suc k + n = omega arith
    in subst (λ m. NamedUpTo ds m x w) e (inr (omega arith, up ds n k x w less h))

down : (ds : List Expression) (n k x : ℕ) (w : List ℕ) → x < n → NamedUpTo ds (k + n) x w → NamedUpTo ds n x w
down ds n zero x w less h = subst (λ m. NamedUpTo ds m x w) (omega arith) h
down ds n (suc k) x w less h = go (λ r. down ds n k x w less r) (let e : suc k + n ≡ suc (k + n) = omega arith
    in subst (λ m. NamedUpTo ds m x w) e h)
  where
    go : (NamedUpTo ds (k + n) x w → NamedUpTo ds n x w) → NamedUpTo ds (suc (k + n)) x w → NamedUpTo ds n x w
    go f (inl same) = absurd (omega (arith, same.0))
    go f (inr rest) = f rest.1

up_to : (ds : List Expression) (n m x : ℕ) (w : List ℕ) → x < n → n ≤ m → NamedUpTo ds n x w → NamedUpTo ds m x w
up_to ds n m x w less le h = let e : (m - n) + n ≡ m = omega arith
    in subst (λ k. NamedUpTo ds k x w) e (up ds n (m - n) x w less h)

down_to : (ds : List Expression) (n m x : ℕ) (w : List ℕ) → x < n → n ≤ m → NamedUpTo ds m x w → NamedUpTo ds n x w
down_to ds n m x w less le h = let e : m ≡ (m - n) + n = omega arith
    in down ds n (m - n) x w less (subst (λ k. NamedUpTo ds k x w) e h)

within_is_definition : (ds : List Expression) (x : ℕ) (d : Expression) (w : List ℕ) → AreOrdered ds
    → slice_get ds x ≡ Some d → x < length ds → Matches ds (name x) w ↔ Matches ds d w
within_is_definition ds x d w ordered is within = (
  λ h. there (down_to ds (suc x) (length ds) x w (omega arith) (omega arith) h),
  λ h. up_to ds (suc x) (length ds) x w (omega arith) (omega arith)
      (inl (
        refl,
        d,
        is,
        change (NamedUpTo ds (length ds)) (NamedUpTo ds x) x
            (λ y v less k. down_to ds x (length ds) y v less (omega arith) k) d w (ordered x d is) h,
      )),
)
  where
    there : NamedUpTo ds (suc x) x w → Matches ds d w
    there (inl p) =
        let same : p.1 ≡ d = let a = p.2 in cc in
        change (NamedUpTo ds x) (NamedUpTo ds (length ds)) x
        (λ y v less k. up_to ds x (length ds) y v less (omega arith) k) d w (ordered x d is)
        (subst (λ e. MatchesUnder (NamedUpTo ds x) e w) same p.3)
    there (inr p) = absurd (omega (arith, p.0))

pub name_is_definition : NameIsDefinition
name_is_definition ds x d w ordered is = within_is_definition ds x d w ordered is (slice_get_within ds x d is)
