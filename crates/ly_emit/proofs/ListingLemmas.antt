-- What the sections of a table set list, one more at a time.
use Rattle.std.proofs.Common.{◌≡◌, ◌∙◌, ◌++◌, ◌∷◌, [], ℕ, List, Some, ap, inl, inr, length, map, slice_get, subst, sym}
use Rattle.std.proofs.lemmas.List.{length-map, map-append}
use Rattle.ly_pack.proofs.OrderLemmas.{slice_get-push_cases}

-- what holds of each member at its place, holds with one more
pub each_more : {X Y : Type 0} (P : ℕ → Y → Type 0) (f : X → Y) (old new : List X) (x : X)
    → ((k : ℕ) (y : Y) → slice_get (map f old) k ≡ Some y → P k y) → P (length old) (f x) → new ≡ old ++ x ∷ []
    → (k : ℕ) (y : Y) → slice_get (map f new) k ≡ Some y → P k y
each_more P f old new x before last pushed k y at =
    elim (slice_get-push_cases (map f old) (f x) y k (ap (λ w. slice_get w k) (sym whole) ∙ at)) [
      | inl there ↦ before k y there
      | inr here ↦ subst (λ n. P n y) (sym (here.0 ∙ length-map old f)) (subst (P (length old)) here.1 last)
    ]
  where
    whole : map f new ≡ map f old ++ f x ∷ []
    whole = ap (map f) pushed ∙ map-append f old (x ∷ [])
