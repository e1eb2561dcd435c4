-- What stands in a list before more is added to it.
use Rattle.std.proofs.Common.{◌≡◌, ◌∙◌, ℕ, ◌<◌, List, ◌++◌, Some, length, slice_get, sym}
use Rattle.ly_base.proofs.ListLemmas.{slice_get-append, some_at}

-- what stands at a place within stood there before more was added
pub slice_get-before : {X : Type 0} (xs ys : List X) (k : ℕ) (x : X) → k < length xs → slice_get (xs ++ ys) k ≡ Some x
    → slice_get xs k ≡ Some x
slice_get-before xs ys k x lt at =
    let there = some_at xs k lt in there.1 ∙ (sym (slice_get-append xs ys k there.0 there.1) ∙ at)
