-- How long combs are that are placed by first fit: a row begins no later than where the rows before it end.
use Rattle.std.proofs.Common.{◌≡◌, ◌∙◌, ◌<◌, ◌≤◌, ◌+◌, ◌-◌, ◌*◌, ◌∷◌, [], ℕ, zero, suc, List, length, Some}
use Rattle.std.proofs.Common.{refl, ap, arith, inl, inr, slice_get, not, Bool, true, false, cond}
use Rattle.std.specs.Prelude.{filter, nat_lt}
use Rattle.std.specs.List.{range_with_len}
use Rattle.std.proofs.lemmas.Bool.{cases_lt, lt-ltb}
use Rattle.std.proofs.lemmas.Bool.Decides.{nat_tests}
use Rattle.std.proofs.lemmas.List.Filters.{length-filter_both}
use Rattle.std.proofs.lemmas.List.FromFn.{length-range_with_len}
use Rattle.std.proofs.lemmas.Nat.{mul-le}
use Rattle.std.proofs.lemmas.Option.{slice_get_within}
use Rattle.ly_base.proofs.ListLemmas.{slice_get-range}
use Rattle.ly_pack.specs.Combs.{IsFirstFit, table_in}
use Rattle.ly_pack.specs.Placement.{IsPlaced, Table}
use Rattle.ly_pack.specs.Rows.{Comb, IsComb}
use Rattle.ly_pack.proofs.PlacementLemmas.{by_order, entry_or_none, rank, rank_less}

-- how many of the members pass
abbrev count : {X : Type 0} → (X → Bool) → List X → ℕ
count p xs = length (filter p xs)

-- where all that pass one test pass another, the other lets no fewer through; and more, where one passes it alone
module _ {X : Type 0} (p q : X → Bool) (to : (x : X) → p x ≡ true → q x ≡ true) where
  with_one : (x : X) (xs ys : List X) (b c : Bool) → (b ≡ true → c ≡ true) → length xs ≤ length ys
      → length (cond b (x ∷ xs) xs) ≤ length (cond c (x ∷ ys) ys)
  with_one x xs ys true true so le = omega (arith, le)
  with_one x xs ys true false so le = let wrong : false ≡ true = so refl in absurd (cc)
  with_one x xs ys false true so le = omega (arith, le)
  with_one x xs ys false false so le = le

  count_le : (xs : List X) → count p xs ≤ count q xs
  count_le [] = omega arith
  count_le (x ∷ xs) = with_one x (filter p xs) (filter q xs) (p x) (q x) (to x) (count_le xs)

  one_more : (x : X) (xs ys : List X) (b c : Bool) → b ≡ false → c ≡ true → length xs ≤ length ys
      → length (cond b (x ∷ xs) xs) < length (cond c (x ∷ ys) ys)
  one_more x xs ys true c fails passes le = absurd (cc)
  one_more x xs ys false true fails passes le = omega (arith, le)
  one_more x xs ys false false fails passes le = absurd (cc)

  with_less : (x : X) (xs ys : List X) (b c : Bool) → (b ≡ true → c ≡ true) → length xs < length ys
      → length (cond b (x ∷ xs) xs) < length (cond c (x ∷ ys) ys)
  with_less x xs ys true true so le = omega (arith, le)
  with_less x xs ys true false so le = let wrong : false ≡ true = so refl in absurd (cc)
  with_less x xs ys false true so le = omega (arith, le)
  with_less x xs ys false false so le = le

  count_less : (xs : List X) (k : ℕ) (x : X) → slice_get xs k ≡ Some x → p x ≡ false → q x ≡ true
      → count p xs < count q xs
  count_less [] k x at fails passes = absurd (cc)
  count_less (y ∷ xs) zero x at fails passes = let same : y ≡ x = cc in
      one_more y (filter p xs) (filter q xs) (p y) (q y) (ap p same ∙ fails) (ap q same ∙ passes) (count_le xs)
  count_less (y ∷ xs) (suc k) x at fails passes = with_less y (filter p xs) (filter q xs) (p y) (q y) (to y)
      (count_less xs k x at fails passes)

ends_before : (base its width places more : ℕ) → base ≤ places * width → its < width → places + 1 ≤ more
    → base + its < more * width
ends_before base its width places more low lt le = omega (
  arith,
  low,
  lt,
  mul-le (places + 1) width more width le
      (omega arith),
)

module _ {E : Type 0} (T : Table E) where
  -- how many rows stand before one
  abbrev places : ℕ → ℕ
  places row = count (λ other. nat_lt (rank T other) (rank T row)) (range_with_len 0 T.rows)

  places_le : (row : ℕ) → places row ≤ T.rows
  places_le row = omega (
    arith,
    length-filter_both (λ other. nat_lt (rank T other) (rank T row)) (λ other. not (nat_lt (rank T other) (rank T row)))
        (λ other. refl) (range_with_len 0 T.rows),
    length-range_with_len 0 T.rows,
  )

  less_trans : (a b c : ℕ) → a < b → nat_lt c a ≡ true → nat_lt c b ≡ true
  less_trans a b c less lower = let under : c < a = grind (arith, nat_tests, lower) in
      lt-ltb c b (omega (arith, under, less))

  not_itself : (a : ℕ) → nat_lt a a ≡ false
  not_itself a = grind (arith, nat_tests)

  places_less : (other row : ℕ) → other < T.rows → rank T other < rank T row → places other < places row
  places_less other row small less = count_less (λ r. nat_lt (rank T r) (rank T other))
      (λ r. nat_lt (rank T r) (rank T row))
      (λ r. less_trans (rank T other) (rank T row) (rank T r) less) (range_with_len 0 T.rows) other other
      (slice_get-range T.rows other small) (not_itself (rank T other)) (lt-ltb (rank T other) (rank T row) less)

  module _ (c : Comb E) (is : IsPlaced T c) where
    base_low : (row : ℕ) → row < T.rows → (base : ℕ) → slice_get c.bases row ≡ Some base → base ≤ places row * T.width
    base_low = by_order T (λ row. (base : ℕ) → slice_get c.bases row ≡ Some base → base ≤ places row * T.width)
        (λ row lt lower base at. elim (entry_or_none T row) [
          | inr none ↦ let first = is.empty row base at none in omega (arith, first)
          | inl some ↦ elim (cases_lt (places row * T.width) base) [
            | inr le ↦ le
            | inl more ↦ absurd (is.least row base (places row * T.width) some.0 at some.1 more
                (λ other there column its small goes at_other has its_has e.
                let before = ends_before there its T.width (places other) (places row)
                (lower other small goes there at_other) its_has.0
                (let fewer = places_less other row small (rank_less T other row small goes) in omega (arith, fewer)) in
                omega (arith, before, e)))
          ]
        ])

    slots_few : length c.slots ≤ (T.rows + 1) * T.width
    slots_few = elim (cases_lt 0 (length c.slots)) [
      | inr none ↦ omega (arith, none)
      | inl some ↦
          let last = is.short (length c.slots - 1) (omega (arith, some)) in
          let w = (is.slots (length c.slots - 1) last.0.row last.0.entry).0 last.1 in
          let within = ends_before w.0 w.1 T.width (places last.0.row) (T.rows + 1)
          (base_low last.0.row (let lt = slice_get_within c.bases last.0.row w.0 w.2 in omega (arith, lt, is.rows))
          w.0 w.2) w.3
          (omega (arith, places_le last.0.row)) in
          omega (arith, within, w.5, some)
    ]

    placed_comb : IsComb c
    placed_comb = record {
      bases = λ row base at. elim (entry_or_none T row) [
        | inr none ↦ let first = is.empty row base at none in omega (arith, first)
        | inl some ↦ let has = some.1 in
            let used = slice_get_within c.slots (base + some.0) _
            ((is.slots (base + some.0) row has.1).1 (base, some.0, at, has.0, has.2, refl)) in
            omega (arith, used)
      ];
      slots = λ k slot at. let w = (is.slots k slot.row slot.entry).0 at in
          (w.0, w.2, omega (arith, w.5), omega (arith, w.5, w.3, is.width));
    }

-- a comb that is placed by first fit is one, and is no longer than its rows one behind another and one more
pub first_fit_comb : {E : Type 0} (c : Comb E) → IsFirstFit c → IsComb c
first_fit_comb c is = placed_comb (table_in c) c is

pub first_fit_short : {E : Type 0} (c : Comb E) → IsFirstFit c → length c.slots ≤ (length c.bases + 1) * c.width
first_fit_short c is = slots_few (table_in c) c is
