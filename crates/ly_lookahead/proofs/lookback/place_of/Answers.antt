use Rattle.std.proofs.Common.{◌≡◌, ◌∙◌, inl, inr, ℕ, ◌<◌, ◌≤◌, List, Contains, Some, ap, arith, length, slice_get}
use Rattle.std.proofs.Common.{slice_index_or}
use Rattle.std.proofs.Common.{subst, sym}
use Rattle.std.specs.List.{AllPairs}
use Rattle.std.specs.Option.{MatchOption}
use Rattle.std.proofs.Common.{Err, Ok, Result}
use Rattle.std.specs.Result.{MatchResult, result_ok}
use Rattle.std.proofs.lemmas.Bool.{cases_lt, cases_order}
use Rattle.std.proofs.lemmas.List.{get_or_default}
use Rattle.std.proofs.lemmas.List.Sorted.{searched}
use Rattle.std.proofs.lemmas.Option.{slice_get-get_or}
use Rattle.ly_lookahead.proofs.lookback.place_of.Goals as goal

-- what rises doesn't fall
ascending : (xs : List ℕ) → AllPairs (λ p q. p < q) xs → (i j : ℕ) → i ≤ j → j < length xs
    → slice_index_or xs i 0 ≤ slice_index_or xs j 0
ascending xs pairs i j le lt = elim (cases_order i j) [
  | inl e ↦ (let same = ap (λ k. slice_index_or xs k 0) e in omega (arith, same))
  | inr (inl less) ↦ (let rise = pairs i j 0 less lt in omega (arith, rise))
  | inr (inr more) ↦ absurd (omega (arith, more, le))
]

-- what a search found, and where it found nothing
found : (xs : List ℕ) (x : ℕ) (r : Result ℕ ℕ)
    → MatchResult r (λ i. (i < length xs) × (slice_index_or xs i 0 ≡ x))
    (λ i. (i ≤ length xs) × ((k : ℕ) → k < i → slice_index_or xs k 0 < x)
    × ((k : ℕ) → i ≤ k → k < length xs → x < slice_index_or xs k 0))
    → MatchOption (result_ok r) (Contains xs x → ⊥) (λ k. slice_get xs k ≡ Some x)
found xs x (Ok i) m = slice_get-get_or xs i 0 m.0 ∙ ap (λ y. Some y) m.1
found xs x (Err i) m = λ has.
    let is = get_or_default xs has.0 0 x has.1 ∙ has.2 in
    elim (cases_lt has.0 i) [
      | inl below ↦ (let less = m.1 has.0 below in omega (arith, less, is))
      | inr past ↦ (let more = m.2 has.0 past has.1 in omega (arith, more, is))
    ]

pub returns : goal.returns
returns c =
    let xs = c.args.rules.now in
    let x = c.args.rule in
    subst (λ o. MatchOption o (Contains xs x → ⊥) (λ k. slice_get xs k ≡ Some x)) (sym c.ok.ensures.value)
    (found xs x c.binary_search.result
    (searched xs x c.binary_search.result c.binary_search.ensures.position (ascending xs c.requires)))
