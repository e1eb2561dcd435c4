-- Strings one after another, any number of times.
use Rattle.std.proofs.Common.{◌≡◌, inl, inr, ◌⊎◌, ℕ, zero, suc, ◌+◌, ◌-◌, ◌<◌, ◌≤◌, List, [], ◌++◌, refl, sym, ap}
use Rattle.std.proofs.Common.{subst, ◌∙◌, arith, append_assoc, append-nil, add-one}
use Rattle.std.specs.Prelude.{◌↔◌}
use Rattle.ly_ere.specs.Expression.{Concatenated}
use Rattle.ly_ere.proofs.NameLaws.{joined_map}

-- a string of L and then one of M
abbrev pub InTurn : (List ℕ → Type 0) → (List ℕ → Type 0) → List ℕ → Type 0
InTurn L M w = (u : List ℕ) × (v : List ℕ) × (w ≡ u ++ v) × L u × M v

-- sets with the same strings
abbrev pub Same : (List ℕ → Type 0) → (List ℕ → Type 0) → Type 0
Same L M = (w : List ℕ) → L w ↔ M w

pub same_trans : (L M K : List ℕ → Type 0) → Same L M → Same M K → Same L K
same_trans L M K f g w = (λ a. (g w).0 ((f w).0 a), λ c. (f w).1 ((g w).1 c))

module _ (L : List ℕ → Type 0) where
  pub joined_one : (w : List ℕ) → L w → Concatenated L 1 w
  joined_one w h = (w, [], sym (append-nil w), h, refl)

  pub joined_append : (j k : ℕ) (u v : List ℕ) → Concatenated L j u → Concatenated L k v
      → Concatenated L (j + k) (u ++ v)
  joined_append zero k u v a b =
      let e : k ≡ zero + k = omega arith in
      subst (λ n. Concatenated L n (u ++ v)) e (subst (λ z. Concatenated L k (z ++ v)) (sym a) b)
  joined_append (suc j) k u v a b =
      let e : suc (j + k) ≡ suc j + k = omega arith in
      subst (λ n. Concatenated L n (u ++ v)) e (
        a.0,
        a.1 ++ v,
        ap (λ z. z ++ v) a.2 ∙ append_assoc a.0 a.1 v,
        a.3,
        joined_append j k a.1 v a.4 b,
      )

  pub joined_split : (j k : ℕ) (w : List ℕ) → Concatenated L (j + k) w → InTurn (Concatenated L j) (Concatenated L k) w
  joined_split zero k w h = let e : zero + k ≡ k
      = omega arith in ([], w, refl, refl, subst (λ n. Concatenated L n w) e h)
  joined_split (suc j) k w h =
      more (let e : suc j + k ≡ suc (j + k) = omega arith in subst (λ n. Concatenated L n w) e h)
      (λ v g. joined_split j k v g)
    where
      more : Concatenated L (suc (j + k)) w
          → ((v : List ℕ) → Concatenated L (j + k) v → InTurn (Concatenated L j) (Concatenated L k) v)
          → InTurn (Concatenated L (suc j)) (Concatenated L k) w
      more g f = let s = f g.1 g.4
          in (
            g.0 ++ s.0,
            s.1,
            g.2 ∙ (ap (λ z. g.0 ++ z) s.2 ∙ sym (append_assoc g.0 s.0 s.1)),
            (g.0, s.0, refl, g.3, s.3),
            s.4,
          )

  -- where nothing is in L
  pub joined_none : ((w : List ℕ) → L w → ⊥) → (k : ℕ) (w : List ℕ) → Concatenated L k w → (k ≡ 0) × (w ≡ [])
  joined_none f zero w j = (refl, j)
  joined_none f (suc k) w j = absurd (f j.0 j.3)

  -- where only the empty string is in L
  pub joined_empty : ((w : List ℕ) → L w → w ≡ []) → (k : ℕ) (w : List ℕ) → Concatenated L k w → w ≡ []
  joined_empty f zero w j = j
  joined_empty f (suc k) w j = j.2 ∙ (ap (λ z. z ++ j.1) (f j.0 j.3) ∙ joined_empty f k j.1 j.4)

module _ (L M : List ℕ → Type 0) where
  -- where each string of L is made of strings of M
  pub joined_flat : ((w : List ℕ) → L w → (j : ℕ) × Concatenated M j w) → (k : ℕ) (w : List ℕ) → Concatenated L k w
      → (m : ℕ) × Concatenated M m w
  joined_flat f zero w j = (zero, j)
  joined_flat f (suc k) w j =
      let a = f j.0 j.3 in
      let b : (m : ℕ) × Concatenated M m j.1 = joined_flat f k j.1 j.4 in
      (a.0 + b.0, subst (λ z. Concatenated M (a.0 + b.0) z) (sym j.2) (joined_append M a.0 b.0 j.0 j.1 a.1 b.1))

  -- the same where each is made of one or more
  pub joined_flat_some : ((w : List ℕ) → L w → (j : ℕ) × (1 ≤ j) × Concatenated M j w) → (k : ℕ) (w : List ℕ)
      → Concatenated L k w
      → (m : ℕ) × (k ≤ m) × Concatenated M m w
  joined_flat_some f zero w j = (zero, omega arith, j)
  joined_flat_some f (suc k) w j =
      let a = f j.0 j.3 in
      let b : (m : ℕ) × (k ≤ m) × Concatenated M m j.1 = joined_flat_some f k j.1 j.4 in (
        a.0 + b.0,
        omega (arith, a.1, b.1),
        subst (λ z. Concatenated M (a.0 + b.0) z) (sym j.2)
            (joined_append M a.0 b.0 j.0 j.1 a.2 b.2),
      )

-- the sets of `*`, `+` and `?`
abbrev pub Star : (List ℕ → Type 0) → List ℕ → Type 0
Star L w = (k : ℕ) × Concatenated L k w

abbrev pub Plus : (List ℕ → Type 0) → List ℕ → Type 0
Plus L w = (k : ℕ) × (1 ≤ k) × Concatenated L k w

abbrev pub Optional : (List ℕ → Type 0) → List ℕ → Type 0
Optional L w = (w ≡ []) ⊎ L w

abbrev pub Void : List ℕ → Type 0
Void w = ⊥

abbrev pub Null : List ℕ → Type 0
Null w = w ≡ []

module _ (L : List ℕ → Type 0) (w : List ℕ) where
  pub star_star : Star L w ↔ Star (Star L) w
  star_star = (λ h. (1, joined_one (Star L) w h), λ h. joined_flat (Star L) L (λ v k. k) h.0 w h.1)

  pub star_plus : Star L w ↔ Star (Plus L) w
  star_plus = (
    λ h. (h.0, joined_map L (Plus L) (λ v k. (1, omega arith, joined_one L v k)) h.0 w h.1),
    λ h. joined_flat (Plus L) L (λ v k. (k.0, k.2)) h.0 w h.1,
  )

  parts : (v : List ℕ) → Optional L v → Star L v
  parts v (inl e) = (0, e)
  parts v (inr h) = (1, joined_one L v h)

  pub star_optional : Star L w ↔ Star (Optional L) w
  star_optional
      = (
        λ h. (h.0, joined_map L (Optional L) (λ v k. inr k) h.0 w h.1),
        λ h. joined_flat (Optional L) L parts h.0 w h.1,
      )

  pub plus_star : Star L w ↔ Plus (Star L) w
  plus_star = (λ h. (1, omega arith, joined_one (Star L) w h), λ h. joined_flat (Star L) L (λ v k. k) h.0 w h.2)

  pub plus_plus : Plus L w ↔ Plus (Plus L) w
  plus_plus = (λ h. (1, omega arith, joined_one (Plus L) w h), back)
    where
      back : Plus (Plus L) w → Plus L w
      back h = let m = joined_flat_some (Plus L) L (λ v k. k) h.0 w h.2 in (m.0, omega (arith, m.1, h.1), m.2)

  pub plus_optional : Star L w ↔ Plus (Optional L) w
  plus_optional = (there, λ h. joined_flat (Optional L) L parts h.0 w h.2)
    where
      there : Star L w → Plus (Optional L) w
      there (zero, j) = (1, omega arith, joined_one (Optional L) w (inl j))
      there (suc k, j) = (suc k, omega arith, joined_map L (Optional L) (λ v h. inr h) (suc k) w j)

  pub optional_star : Star L w ↔ Optional (Star L) w
  optional_star = (λ h. inr h, back)
    where
      back : Optional (Star L) w → Star L w
      back (inl e) = (0, e)
      back (inr h) = h

  pub optional_plus : Star L w ↔ Optional (Plus L) w
  optional_plus = (there, back)
    where
      there : Star L w → Optional (Plus L) w
      there (zero, j) = inl j
      there (suc k, j) = inr (suc k, omega arith, j)

      back : Optional (Plus L) w → Star L w
      back (inl e) = (0, e)
      back (inr h) = (h.0, h.2)

  pub optional_optional : Optional L w ↔ Optional (Optional L) w
  optional_optional = (λ h. inr h, back)
    where
      back : Optional (Optional L) w → Optional L w
      back (inl e) = inl e
      back (inr h) = h

module _ (w : List ℕ) where
  pub star_null : Null w ↔ Star Null w
  star_null = (λ e. (0, e), λ h. joined_empty Null (λ v e. e) h.0 w h.1)

  pub plus_null : Null w ↔ Plus Null w
  plus_null = (λ e. (1, omega arith, joined_one Null w e), λ h. joined_empty Null (λ v e. e) h.0 w h.2)

  pub optional_null : Null w ↔ Optional Null w
  optional_null = (λ e. inr e, back)
    where
      back : Optional Null w → Null w
      back (inl e) = e
      back (inr e) = e

  pub star_void : Null w ↔ Star Void w
  star_void = (λ e. (0, e), λ h. (joined_none Void (λ v k. k) h.0 w h.1).1)

  pub plus_void : Void w ↔ Plus Void w
  plus_void = (λ h. absurd h, λ h. omega (arith, h.1, (joined_none Void (λ v k. k) h.0 w h.2).0))

  pub optional_void : Null w ↔ Optional Void w
  optional_void = (λ e. inl e, back)
    where
      back : Optional Void w → Null w
      back (inl e) = e
      back (inr h) = absurd h

pub then_null : (L : List ℕ → Type 0) (w : List ℕ) → L w ↔ InTurn L Null w
then_null L w
    = (
      λ h. (w, [], sym (append-nil w), h, refl),
      λ h. subst L (sym (h.2 ∙ (ap (λ z. h.0 ++ z) h.4 ∙ append-nil h.0)))
          h.3,
    )

pub in_turn_same : (L M P Q : List ℕ → Type 0) → Same L M → Same P Q → Same (InTurn L P) (InTurn M Q)
in_turn_same L M P Q f g w
    = (λ h. (h.0, h.1, h.2, (f h.0).0 h.3, (g h.1).0 h.4), λ h. (h.0, h.1, h.2, (f h.0).1 h.3, (g h.1).1 h.4))

pub or_same : (L M P Q : List ℕ → Type 0) → Same L M → Same P Q → Same (λ w. L w ⊎ P w) (λ w. M w ⊎ Q w)
or_same L M P Q f g w = (there, back)
  where
    there : L w ⊎ P w → M w ⊎ Q w
    there (inl h) = inl ((f w).0 h)
    there (inr h) = inr ((g w).0 h)

    back : M w ⊎ Q w → L w ⊎ P w
    back (inl h) = inl ((f w).1 h)
    back (inr h) = inr ((g w).1 h)

pub joined_same : (L M : List ℕ → Type 0) → Same L M → (k : ℕ) → Same (Concatenated L k) (Concatenated M k)
joined_same L M f k w = (joined_map L M (λ v. (f v).0) k w, joined_map M L (λ v. (f v).1) k w)

pub star_same : (L M : List ℕ → Type 0) → Same L M → Same (Star L) (Star M)
star_same L M f w = (λ h. (h.0, (joined_same L M f h.0 w).0 h.1), λ h. (h.0, (joined_same L M f h.0 w).1 h.1))

pub plus_same : (L M : List ℕ → Type 0) → Same L M → Same (Plus L) (Plus M)
plus_same L M f w
    = (λ h. (h.0, h.1, (joined_same L M f h.0 w).0 h.2), λ h. (h.0, h.1, (joined_same L M f h.0 w).1 h.2))

-- at most n strings
abbrev pub AtMost : (List ℕ → Type 0) → ℕ → List ℕ → Type 0
AtMost L n w = (k : ℕ) × (k ≤ n) × Concatenated L k w

module _ (L M : List ℕ → Type 0) where
  -- one more in front
  pub joined_more : (i : ℕ) → Same (InTurn L (InTurn (Concatenated L i) M)) (InTurn (Concatenated L (i + 1)) M)
  joined_more i w = rw add-one (there, back)
    where
      there : InTurn L (InTurn (Concatenated L i) M) w → InTurn (Concatenated L (suc i)) M w
      there h = (
        h.0 ++ h.4.0,
        h.4.1,
        h.2 ∙ (ap (λ z. h.0 ++ z) h.4.2 ∙ sym (append_assoc h.0 h.4.0 h.4.1)),
        (h.0, h.4.0, refl, h.3, h.4.3),
        h.4.4,
      )

      back : InTurn (Concatenated L (suc i)) M w → InTurn L (InTurn (Concatenated L i) M) w
      back h = (
        h.3.0,
        h.3.1 ++ h.1,
        h.2 ∙ (ap (λ z. z ++ h.1) h.3.2 ∙ append_assoc h.3.0 h.3.1 h.1),
        h.3.3,
        (h.3.1, h.1, refl, h.3.4, h.4),
      )

module _ (L : List ℕ → Type 0) where
  pub at_most_more : (i : ℕ) → Same (Optional (InTurn L (AtMost L i))) (AtMost L (i + 1))
  at_most_more i w = (there, back)
    where
      there : Optional (InTurn L (AtMost L i)) w → AtMost L (i + 1) w
      there (inl e) = (0, omega arith, e)
      there (inr h) = (suc h.4.0, omega (arith, h.4.1), (h.0, h.1, h.2, h.3, h.4.2))

      back : AtMost L (i + 1) w → Optional (InTurn L (AtMost L i)) w
      back (zero, l, j) = inl j
      back (suc k, l, j) = inr (j.0, j.1, j.2, j.3, (k, omega (arith, l), j.4))

  -- from m to n strings: m, and then at most n - m
  pub between : (m n : ℕ) → m ≤ n
      → Same (InTurn (Concatenated L m) (AtMost L (n - m))) (λ w. (k : ℕ) × (m ≤ k) × (k ≤ n)
      × Concatenated L k w)
  between m n le w = (there, back)
    where
      there : InTurn (Concatenated L m) (AtMost L (n - m)) w → (k : ℕ) × (m ≤ k) × (k ≤ n) × Concatenated L k w
      there h = (
        m + h.4.0,
        omega arith,
        omega (arith, h.4.1),
        subst (λ z. Concatenated L (m + h.4.0) z) (sym h.2)
            (joined_append L m h.4.0 h.0 h.1 h.3 h.4.2),
      )

      back : (k : ℕ) × (m ≤ k) × (k ≤ n) × Concatenated L k w → InTurn (Concatenated L m) (AtMost L (n - m)) w
      back h =
          let s = joined_split L m (h.0 - m) w (let e : h.0 ≡ m + (h.0 - m) = omega (arith, h.1)
          in subst (λ k. Concatenated L k w) e h.3) in
          (s.0, s.1, s.2, s.3, (h.0 - m, omega (arith, h.2), s.4))

  -- m strings or more: m - 1, and then one or more
  pub or_more : (m : ℕ) → 0 < m → Same (InTurn (Concatenated L (m - 1)) (Plus L)) (λ w. (k : ℕ) × (m ≤ k) × Unit {0}
      × Concatenated L k w)
  or_more m pos w = (there, back)
    where
      there : InTurn (Concatenated L (m - 1)) (Plus L) w → (k : ℕ) × (m ≤ k) × Unit {0} × Concatenated L k w
      there h = (
        (m - 1) + h.4.0,
        omega (arith, h.4.1),
        tt,
        subst (λ z. Concatenated L ((m - 1) + h.4.0) z) (sym h.2)
            (joined_append L (m - 1) h.4.0 h.0 h.1 h.3 h.4.2),
      )

      back : (k : ℕ) × (m ≤ k) × Unit {0} × Concatenated L k w → InTurn (Concatenated L (m - 1)) (Plus L) w
      back h =
          let s = joined_split L (m - 1) (h.0 - (m - 1)) w (let e : h.0 ≡ (m - 1) + (h.0 - (m - 1)) = omega (arith, h.1)
          in subst (λ k. Concatenated L k w) e h.3) in
          (s.0, s.1, s.2, s.3, (h.0 - (m - 1), omega (arith, h.1), s.4))
