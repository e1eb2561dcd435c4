-- Blocks that are written item by item from their front.
use Rattle.std.proofs.Common.{◌≡◌, ◌∙◌, ◌<◌, ◌≤◌, ◌+◌, ◌++◌, ◌∷◌, ◌⊎◌, [], ℕ, suc, List, add-one, ap}
use Rattle.std.proofs.Common.{append_assoc, arith, drop, drop-cons, get_or, inl, inr, length, map, min, sym, take}
use Rattle.std.proofs.Math.ListN.{set}
use Rattle.std.proofs.lemmas.List.{drop_all, length-map, length-take-le, map_push, set_at, take-map, take_all}
use Rattle.std.proofs.lemmas.List.{take_more}

-- one more item stands in front of what was there before
pub one_more : {T : Type 0} (front old : List T) (n : ℕ) (x : T) → length front ≡ n → n < length old
    → set (front ++ drop n old) n x ≡ (front ++ x ∷ []) ++ drop (n + 1) old
one_more front old n x size here =
    ap (λ rest. set (front ++ rest) n x) (drop-cons old n x here)
    ∙ (set_at front (get_or old n x) (drop (suc n) old) x n size
    ∙ (ap (λ k. front ++ x ∷ drop k old) (sym (add-one n)) ∙ sym (append_assoc front (x ∷ []) (drop (n + 1) old))))

-- so does one that is made of an item of a list
pub mapped_put : {A T : Type 0} (f : A → T) (xs : List A) (old : List T) (i : ℕ) (d : A) → i < length xs
    → i < length old
    → set (map f (take i xs) ++ drop i old) i (f (get_or xs i d)) ≡ map f (take (i + 1) xs) ++ drop (i + 1) old
mapped_put f xs old i d here room =
    one_more (map f (take i xs)) old i (f (get_or xs i d))
    (length-map (take i xs) f ∙ length-take-le i xs (omega arith)) room
    ∙ ap (λ front. front ++ drop (i + 1) old)
    (sym (ap (map f) (take_more xs i d here) ∙ map_push f (take i xs) (get_or xs i d)))

-- all that there is room for is there
pub mapped_all : {A T : Type 0} (f : A → T) (xs : List A) (old : List T) (i : ℕ) → i ≡ min (length xs) (length old)
    → map f (take i xs) ++ drop i old ≡ take (length old) (map f xs) ++ drop (length (map f xs)) old
mapped_all f xs old i is =
    elim (shorter (length xs) (length old)) [
      | inl all ↦
          let whole : i ≡ length xs = omega (arith, is, all) in
          ap (λ k. map f (take k xs) ++ drop k old) whole
          ∙ (ap (λ front. map f front ++ drop (length xs) old) (take_all (length xs) xs (omega arith))
          ∙ (ap (λ front. front ++ drop (length xs) old)
          (sym (take_all (length old) (map f xs) (omega (arith, length-map xs f, all))))
          ∙ ap (λ k. take (length old) (map f xs) ++ drop k old) (sym (length-map xs f))))
      | inr part ↦
          let whole : i ≡ length old = omega (arith, is, part) in
          ap (λ k. map f (take k xs) ++ drop k old) whole
          ∙ (ap (λ front. front ++ drop (length old) old) (sym (take-map f (length old) xs))
          ∙ ap (λ rest. take (length old) (map f xs) ++ rest)
          (drop_all (length old) old (omega arith)
          ∙ sym (drop_all (length (map f xs)) old (omega (arith, length-map xs f, part)))))
    ]
  where
    shorter : (a b : ℕ) → (a ≤ b) ⊎ (b ≤ a)
    shorter a b = grind arith
