-- Lists one after another, seen from one of their elements.
use Rattle.std.proofs.Common.{◌≡◌, ◌⊎◌, inl, inr, ℕ, zero, suc, ◌≤◌, List, [], ◌∷◌, ◌++◌, refl, sym, ◌∙◌, ap, subst}
use Rattle.std.proofs.Common.{arith, append_assoc, append-nil}
use Rattle.std.specs.List.{AllZip}
use Rattle.ly_ere.specs.Expression.{Concatenated}

-- an element of two lists stands in the first
pub record InFirst {A : Type 0} (us vs xs ys : List A) (m : A) : Type 0 where
  pub more : List A
  pub first : us ≡ xs ++ m ∷ more
  pub rest : ys ≡ more ++ vs

-- or in the second
pub record InSecond {A : Type 0} (us vs xs ys : List A) (m : A) : Type 0 where
  pub less : List A
  pub second : vs ≡ less ++ m ∷ ys
  pub front : xs ≡ us ++ less

pub split : {A : Type 0} (us vs xs ys : List A) (m : A) → xs ++ m ∷ ys ≡ us ++ vs
    → InFirst us vs xs ys m ⊎ InSecond us vs xs ys m
split [] vs xs ys m e = inr (record { less = xs; second = sym e; front = refl })
split (u ∷ us) vs [] ys m e = inl (record { more = us; first = cc; rest = cc })
split {A} (u ∷ us) vs (x ∷ xs) ys m e = more (split us vs xs ys m cc)
  where
    more : InFirst us vs xs ys m ⊎ InSecond us vs xs ys m
        → InFirst (u ∷ us) vs (x ∷ xs) ys m ⊎ InSecond (u ∷ us) vs (x ∷ xs) ys m
    more (inl h) = let a = h.first in inl (record { more = h.more; first = cc; rest = h.rest })
    more (inr h) = let a = h.front in inr (record { less = h.less; second = h.second; front = cc })

pub no_end : {A : Type 0} (xs ys : List A) (m : A) → xs ++ m ∷ ys ≡ [] → ⊥
no_end [] ys m e = cc
no_end (x ∷ xs) ys m e = cc

pub alone : {A : Type 0} (xs ys : List A) (m n : A) → xs ++ m ∷ ys ≡ n ∷ [] → (xs ≡ []) × (m ≡ n) × (ys ≡ [])
alone [] ys m n e = (refl, cc, cc)
alone (x ∷ xs) ys m n e = absurd (no_end xs ys m cc)

regroup : (p x y q : List ℕ) (n : ℕ) → (p ++ x) ++ n ∷ (y ++ q) ≡ p ++ ((x ++ n ∷ y) ++ q)
regroup p x y q n = append_assoc p x (n ∷ (y ++ q)) ∙ ap (λ z. p ++ z) (sym (append_assoc x (n ∷ y) q))

-- strings one after another, with an element of one of them
pub record InOne (L : List ℕ → Type 0) (xs ys : List ℕ) (m : ℕ) : Type 0 where
  pub before : ℕ
  pub after : ℕ
  pub front : List ℕ
  pub left : List ℕ
  pub right : List ℕ
  pub back : List ℕ
  pub in_front : Concatenated L before front
  pub in_one : L (left ++ m ∷ right)
  pub in_back : Concatenated L after back
  pub left_is : xs ≡ front ++ left
  pub right_is : ys ≡ right ++ back

module _ (L : List ℕ → Type 0) where
  pub in_one_of : (k : ℕ) (xs ys : List ℕ) (m : ℕ) → Concatenated L k (xs ++ m ∷ ys) → InOne L xs ys m
  in_one_of zero xs ys m j = absurd (no_end xs ys m j)
  in_one_of (suc k) xs ys m j = by (λ t h. in_one_of k t ys m h) (split j.0 j.1 xs ys m j.2)
    where
      by : ((t : List ℕ) → Concatenated L k (t ++ m ∷ ys) → InOne L t ys m)
          → InFirst j.0 j.1 xs ys m ⊎ InSecond j.0 j.1 xs ys m → InOne L xs ys m
      by f (inl h) = record {
        before = 0;
        after = k;
        front = [];
        left = xs;
        right = h.more;
        back = j.1;
        in_front = refl;
        in_one = subst L h.first j.3;
        in_back = j.4;
        left_is = refl;
        right_is = h.rest;
      }
      by f (inr h) =
          let o = f h.less (subst (λ z. Concatenated L k z) h.second j.4) in
          record {
            before = suc o.before;
            after = o.after;
            front = j.0 ++ o.front;
            left = o.left;
            right = o.right;
            back = o.back;
            in_front = (j.0, o.front, refl, j.3, o.in_front);
            in_one = o.in_one;
            in_back = o.in_back;
            left_is = h.front ∙ (ap (λ z. j.0 ++ z) o.left_is ∙ sym (append_assoc j.0 o.front o.left));
            right_is = o.right_is;
          }

  put_in : (i j : ℕ) (p u q : List ℕ) → Concatenated L i p → L u → Concatenated L j q
      → (k : ℕ) × (1 ≤ k) × Concatenated L k (p ++ (u ++ q))
  put_in zero j p u q a h b = (suc j, omega arith, (u, q, ap (λ z. z ++ (u ++ q)) a, h, b))
  put_in (suc i) j p u q a h b =
      let f = put_in i j a.1 u q a.4 h b in (
        suc f.0,
        omega arith,
        (a.0, a.1 ++ (u ++ q), ap (λ z. z ++ (u ++ q)) a.2 ∙ append_assoc a.0 a.1 (u ++ q), a.3, f.2),
      )

  pub once_in : (u : List ℕ) → L u → Concatenated L 1 u
  once_in u h = (u, [], sym (append-nil u), h, refl)

  pub change_in : (m : ℕ)
      → ((xs ys us vs : List ℕ) → L (xs ++ m ∷ ys) → L (us ++ m ∷ vs) → L (xs ++ m ∷ vs)) → (i j : ℕ)
      (xs ys us vs : List ℕ) → Concatenated L i (xs ++ m ∷ ys) → Concatenated L j (us ++ m ∷ vs)
      → (k : ℕ) × (1 ≤ k) × Concatenated L k (xs ++ m ∷ vs)
  change_in m f i j xs ys us vs a b =
      let s = in_one_of i xs ys m a in
      let t = in_one_of j us vs m b in
      let p = put_in s.before t.after s.front (s.left ++ m ∷ t.right) t.back s.in_front
      (f s.left s.right t.left t.right s.in_one t.in_one) t.in_back in
      let e : xs ++ m ∷ vs ≡ s.front ++ ((s.left ++ m ∷ t.right) ++ t.back) = ap (λ z. z ++ m ∷ vs) s.left_is
      ∙ (ap (λ z. (s.front ++ s.left) ++ m ∷ z) t.right_is ∙ regroup s.front s.left t.right t.back m) in
      (p.0, p.1, subst (λ z. Concatenated L p.0 z) (sym e) p.2)

-- lists side by side, in parts
module _ {A B : Type 0} (R : A → B → Type 0) where
  pub zip_both : (us vs : List A) (xs ys : List B) → AllZip R us xs → AllZip R vs ys → AllZip R (us ++ vs) (xs ++ ys)
  zip_both [] vs [] ys h k = k
  zip_both [] vs (x ∷ xs) ys h k = absurd h
  zip_both (u ∷ us) vs [] ys h k = absurd h
  zip_both (u ∷ us) vs (x ∷ xs) ys h k = (h.0, zip_both us vs xs ys h.1 k)

  pub zip_parts : (us vs : List A) (w : List B) → AllZip R (us ++ vs) w
      → (x : List B) × (y : List B) × (w ≡ x ++ y) × AllZip R us x × AllZip R vs y
  zip_parts [] vs w h = ([], w, refl, tt, h)
  zip_parts (u ∷ us) vs [] h = absurd h
  zip_parts (u ∷ us) vs (b ∷ w) h = let p = zip_parts us vs w h.1
      in (b ∷ p.0, p.1, ap (λ z. b ∷ z) p.2, (h.0, p.3), p.4)
