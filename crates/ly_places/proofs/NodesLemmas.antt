-- The nodes that are begun and not ended, as a stack.
use Rattle.std.proofs.Common.{◌≡◌, ◌∙◌, ◌<◌, ◌-◌, ℕ, List, [], ◌∷◌, ◌++◌, Some, ap, arith, cond, get_or, length}
use Rattle.std.proofs.Common.{reverse, sym}
use Rattle.std.proofs.lemmas.List.{reverse-append}
use Rattle.std.proofs.lemmas.Option.{slice_get-get_or}
use Rattle.std.specs.Option.{option_to_list}
use Rattle.std.specs.Prelude.{Option, codes, slice_get}
use Rattle.ly_places.proofs.PrintingLemmas.{same_number}
use Rattle.ly_places.specs.Private.Printing.{closing, still_open}

-- what is taken off is the last one
pub last_taken : (xs ys : List ℕ) (k n : ℕ) (r : Option ℕ) → k ≡ length xs → xs ≡ ys ++ option_to_list r
    → ((d : ℕ) → 0 < k → r ≡ Some (get_or xs (k - 1) d)) → Some n ≡ slice_get xs (length xs - 1) → xs ≡ ys ++ n ∷ []
last_taken [] ys k n r count items value last = absurd cc
last_taken (x ∷ xs) ys k n r count items value last =
    items ∙ ap (λ o. ys ++ option_to_list o) (value x (omega (arith, count))
    ∙ (ap (λ m. Some (get_or (x ∷ xs) (m - 1) x)) count
    ∙ (sym (slice_get-get_or (x ∷ xs) (length (x ∷ xs) - 1) x (omega arith)) ∙ sym last)))

module _ (xs ys : List ℕ) (n left : ℕ) (taken : xs ≡ ys ++ n ∷ []) (ends : n ≡ left) where
  innermost : reverse xs ≡ left ∷ reverse ys
  innermost = ap reverse taken ∙ (reverse-append ys (n ∷ []) ∙ ap (λ m. m ∷ reverse ys) ends)

  -- a node ends, and what is left is that of the others
  pub node_closes : closing left (reverse xs) ≡ codes "]}" ++ closing left (reverse ys)
  node_closes = ap (closing left) innermost
      ∙ ap (λ b. cond b (codes "]}" ++ closing left (reverse ys)) (codes ",")) (same_number left)

  pub node_ended : still_open left (reverse xs) ≡ still_open left (reverse ys)
  node_ended = ap (still_open left) innermost
      ∙ ap (λ b. cond b (still_open left (reverse ys)) (left ∷ reverse ys)) (same_number left)
