-- Labels by the numbers of rules.
use Rattle.std.proofs.Common.{◌≡◌, ◌∙◌, ◌<◌, ◌≤◌, [], ℕ, List, None, Option, Some}
use Rattle.std.proofs.Common.{ap, arith, get_or, length, map, refl}
use Rattle.std.proofs.Common.{suc, sym}
use Rattle.std.proofs.Common.{zero}
use Rattle.std.specs.Prelude.{option_map, slice_get, unwrap_or, All}
use Rattle.std.proofs.lemmas.Option.{slice_get-get_or, slice_get-map, slice_get_past}
use Rattle.ly_base.proofs.ListLemmas.{All-at}
use Rattle.ly_feed.specs.Private.Labels.{constructors_of}
use Rattle.ly_feed.specs.Vocabularies.{constructor_in, constructor_of}
use Rattle.ly_pack.specs.Machine.{TableRule}

-- the constructor of a rule, among those of all
pub by_number : (rules : List TableRule) (number : ℕ)
    → constructor_in rules number ≡ unwrap_or (slice_get (constructors_of rules) number) []
by_number rules zero = refl
by_number rules (suc p) =
    ap (λ o. unwrap_or o []) (sym (slice_get-map (λ (r : TableRule). constructor_of r.shape) rules p))

-- The label of a number is that of its name, or of no name.
module _ (label : List ℕ → List ℕ) (names labels : List (List ℕ)) (number : ℕ) (are : labels ≡ map label names) where
  by_label : (found : Option (List ℕ)) → slice_get labels number ≡ found
      → unwrap_or found (label []) ≡ label (unwrap_or (slice_get names number) [])
  by_label found is =
      ap (λ o. unwrap_or o (label []))
      (sym is ∙ ap (λ ls. slice_get ls number) are ∙ slice_get-map label names number)
      ∙ either (slice_get names number)
    where
      either : (name : Option (List ℕ))
          → unwrap_or (option_map label name) (label []) ≡ label (unwrap_or name [])
      either None = refl
      either (Some name) = refl

  -- a label that is there
  pub label_there : (found : List ℕ) → number < length labels → found ≡ get_or labels number found
      → found ≡ label (unwrap_or (slice_get names number) [])
  label_there found within is =
      by_label (Some found) (slice_get-get_or labels number found within ∙ ap Some (sym is))

  -- the label where there is none
  pub label_missing : length labels ≤ number → label [] ≡ label (unwrap_or (slice_get names number) [])
  label_missing past = by_label None (slice_get_past labels number past)

-- A label of a name among these is no longer than the longest of theirs, or that of no name.
pub label_within : (label : List ℕ → List ℕ) (names labels : List (List ℕ)) (k n : ℕ) → labels ≡ map label names
    → All (λ l. length l ≤ n) labels → length (label []) ≤ n
    → length (label (unwrap_or (slice_get names k) [])) ≤ n
label_within label names labels k n are all none = either_way (slice_get names k) refl
  where
    either_way : (found : Option (List ℕ)) → slice_get names k ≡ found → length (label (unwrap_or found [])) ≤ n
    either_way None is = none
    either_way (Some name) is =
        All-at (λ l. length l ≤ n) labels k (label name) all
        (ap (λ ls. slice_get ls k) are ∙ slice_get-map label names k ∙ ap (option_map label) is)

-- what is no longer than one number is no longer than a greater one
pub all_more : (labels : List (List ℕ)) (n m : ℕ) → n ≤ m → All (λ l. length l ≤ n) labels
    → All (λ l. length l ≤ m) labels
all_more labels n m more all k d within =
    let short = all k d within in
    omega (arith, short, more)
