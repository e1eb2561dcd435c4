-- There is one comb that is placed of a table: bases are found in the order of rows, and slots follow from them.
use Rattle.std.proofs.Common.{◌≡◌, ◌∙◌, ◌⊎◌, ◌<◌, ◌≤◌, ◌+◌, ◌-◌, ◌*◌, ℕ, zero, suc, List, length, Option, Some, None}
use Rattle.std.proofs.Common.{refl, sym, ap, subst, arith, inl, inr, get_or, slice_get, not}
use Rattle.std.specs.Prelude.{is_some}
use Rattle.std.specs.List.{range_with_len}
use Rattle.std.proofs.lemmas.Bool.{cases_lt, cases_order}
use Rattle.std.proofs.lemmas.List.{same_lists}
use Rattle.std.proofs.lemmas.List.Filters.{length-filter_both}
use Rattle.std.proofs.lemmas.List.FromFn.{length-range_with_len}
use Rattle.std.proofs.lemmas.Nat.{mul-le}
use Rattle.std.proofs.lemmas.Option.{same_Some, slice_get-get_or, slice_get_within}
use Rattle.ly_pack.specs.Placement.{Fits, GoesBefore, Has, IsPlaced, Table, entry_count}
use Rattle.ly_pack.specs.PlacementLaws.{DefaultIsOne, PlacementIsOne}
use Rattle.ly_pack.specs.Private.Order.{columns_of}
use Rattle.ly_pack.specs.Rows.{Comb, Used}
use Rattle.ly_pack.proofs.OrderLemmas.{column_at, has_column}

below : (a b r other row : ℕ) → a < b → other < r → a * r + other < b * r + row
below a b r other row less small = omega (arith, mul-le (a + 1) r b r (omega (arith, less)) (omega arith))

module _ {E : Type 0} (T : Table E) where
  few : (row : ℕ) → entry_count T row ≤ T.width
  few row = omega (
    arith,
    length-filter_both (λ column. is_some (T.entries row column)) (λ column. not (is_some (T.entries row column)))
        (λ column. refl) (range_with_len 0 T.width),
    length-range_with_len 0 T.width,
  )

  -- how far behind a row stands
  abbrev pub rank : ℕ → ℕ
  rank row = (T.width - entry_count T row) * T.rows + row

  pub rank_less : (other row : ℕ) → other < T.rows → GoesBefore T other row → rank other < rank row
  rank_less other row small (inl fewer) = below (T.width - entry_count T other) (T.width - entry_count T row) T.rows
      other row (omega (arith, fewer, few other)) small
  rank_less other row small (inr tie) = subst (λ n. (T.width - n) * T.rows + other < rank row) (sym tie.0)
      (omega (arith, tie.1))

  -- what holds of a row where it holds of those that go before it holds of each
  pub by_order : (P : ℕ → Type 0) → ((row : ℕ) → row < T.rows
      → ((other : ℕ) → other < T.rows → GoesBefore T other row → P other) → P row) → (row : ℕ) → row < T.rows → P row
  by_order P step row lt = below_rank (suc (rank row)) row (omega arith) lt
    where
      below_rank : (n row : ℕ) → rank row < n → row < T.rows → P row
      below_rank zero row less lt = absurd (omega (arith, less))
      below_rank (suc n) row less lt = step row lt (λ other small goes. below_rank n other
          (let lower = rank_less other row small goes in omega (arith, lower, less)) small)

  -- an entry of a row, or that it has none
  pub entry_or_none : (row : ℕ) → ((column : ℕ) × Has T row column) ⊎ ((column : ℕ) → Has T row column → ⊥)
  entry_or_none row = elim (cases_lt 0 (length (columns_of T.entries T.width row))) [
    | inl some ↦ inl (_, has_column T row (columns_of T.entries T.width row) refl 0 some)
    | inr none ↦ inr (λ column has. let found = column_at T row (columns_of T.entries T.width row) refl column has in
        omega (arith, found.1, none))
  ]

  fits_moved : (bases others : List ℕ) (row base : ℕ) → ((other : ℕ) → other < T.rows → GoesBefore T other row
      → slice_get bases other ≡ slice_get others other) → Fits T bases row base → Fits T others row base
  fits_moved bases others row base same fits other there column its small goes is =
      fits other there column its small goes (same other small goes ∙ is)

  module _ (c d : Comb E) (one : IsPlaced T c) (two : IsPlaced T d) where
    row_same : (row : ℕ) → row < T.rows → ((other : ℕ) → other < T.rows → GoesBefore T other row
        → slice_get c.bases other ≡ slice_get d.bases other) → slice_get c.bases row ≡ slice_get d.bases row
    row_same row lt earlier =
        let b = get_or c.bases row 0 in
        let e = get_or d.bases row 0 in
        let at_c = slice_get-get_or c.bases row 0 (omega (arith, lt, one.rows)) in
        let at_d = slice_get-get_or d.bases row 0 (omega (arith, lt, two.rows)) in
        at_c ∙ ap Some (elim (entry_or_none row) [
          | inr none ↦ one.empty row b at_c none ∙ sym (two.empty row e at_d none)
          | inl some ↦ elim (cases_order b e) [
            | inl same ↦ same
            | inr (inl less) ↦ absurd (two.least row e b some.0 at_d some.1 less
                (fits_moved c.bases d.bases row b earlier (one.fits row b at_c)))
            | inr (inr more) ↦ absurd (one.least row b e some.0 at_c some.1 more
                (fits_moved d.bases c.bases row e (λ other small goes. sym (earlier other small goes))
                (two.fits row e at_d)))
          ]
        ]) ∙ sym at_d

    base_same : (row : ℕ) → row < T.rows → slice_get c.bases row ≡ slice_get d.bases row
    base_same = by_order (λ row. slice_get c.bases row ≡ slice_get d.bases row) row_same

    bases_same : c.bases ≡ d.bases
    bases_same = same_lists c.bases d.bases (one.rows ∙ sym two.rows) (λ k x lt.
        same_Some (get_or c.bases k x) (get_or d.bases k x) (sym (slice_get-get_or c.bases k x lt)
        ∙ base_same k (omega (arith, lt, one.rows))
        ∙ slice_get-get_or d.bases k x (omega (arith, lt, one.rows, two.rows))))

  -- a slot that the one uses, the other does
  used_moved : (c d : Comb E) → IsPlaced T c → IsPlaced T d → c.bases ≡ d.bases → (k : ℕ) (u : Used E)
      → slice_get c.slots k ≡ Some (Some u) → slice_get d.slots k ≡ Some (Some u)
  used_moved c d one two same k u is = let w = (one.slots k u.row u.entry).0 is in
      (two.slots k u.row u.entry).1 (
        w.0,
        w.1,
        ap (λ bases. slice_get bases u.row) (sym same) ∙ w.2,
        w.3,
        w.4,
        w.5,
      )

  no_longer : (c d : Comb E) → IsPlaced T c → IsPlaced T d → c.bases ≡ d.bases → length c.slots ≤ length d.slots
  no_longer c d one two same = elim (cases_lt (length d.slots) (length c.slots)) [
    | inr le ↦ le
    | inl longer ↦ let last = one.short (length c.slots - 1) (omega (arith, longer)) in
        let within = slice_get_within d.slots (length c.slots - 1) (Some last.0)
        (used_moved c d one two same (length c.slots - 1) last.0 last.1) in
        absurd (omega (arith, within, longer))
  ]

  both_ways : {X : Type 0} (x y : Option X) → ((u : X) → x ≡ Some u → y ≡ Some u) → ((u : X) → y ≡ Some u
      → x ≡ Some u) → x ≡ y
  both_ways None None to from = refl
  both_ways None (Some v) to from = from v refl
  both_ways (Some u) y to from = sym (to u refl)

  -- what stands in a slot of the one stands in that of the other
  slot_moved : (c d : Comb E) → IsPlaced T c → IsPlaced T d → c.bases ≡ d.bases → (k : ℕ) (x : Option (Used E))
      → k < length c.slots → k < length d.slots → (u : Used E) → get_or c.slots k x ≡ Some u
      → get_or d.slots k x ≡ Some u
  slot_moved c d one two same k x lt_c lt_d u is = same_Some (get_or d.slots k x) (Some u)
      (sym (slice_get-get_or d.slots k x lt_d)
      ∙ used_moved c d one two same k u (slice_get-get_or c.slots k x lt_c ∙ ap Some is))

pub placement_is_one : {E : Type 0} → PlacementIsOne E
placement_is_one T c d one two =
    let bases = bases_same T c d one two in
    let there = no_longer T c d one two bases in
    let back = no_longer T d c two one (sym bases) in
    let slots : c.slots ≡ d.slots = same_lists c.slots d.slots (omega (arith, there, back)) (λ k x lt.
    let lt_d : k < length d.slots = omega (arith, lt, there) in
    both_ways T (get_or c.slots k x) (get_or d.slots k x) (slot_moved T c d one two bases k x lt lt_d)
    (slot_moved T d c two one (sym bases) k x lt_d lt)) in
    λ i. record { width = (one.width ∙ sym two.width) i; bases = bases i; slots = slots i }

pub default_is_one : DefaultIsOne
default_is_one m state None None one two = refl
default_is_one m state None (Some q) one two = absurd (omega (arith, one q, two.some))
default_is_one m state (Some p) None one two = absurd (omega (arith, two p, one.some))
default_is_one m state (Some p) (Some q) one two = ap Some (elim (one.most q) [
  | inl less ↦ elim (two.most p) [
    | inl more ↦ absurd (omega (arith, less, more))
    | inr (inl tie) ↦ absurd (omega (arith, less, tie.0))
    | inr (inr none) ↦ absurd (omega (arith, none, one.some))
  ]
  | inr (inl same) ↦ elim (two.most p) [
    | inl more ↦ absurd (omega (arith, same.0, more))
    | inr (inl tie) ↦ omega (arith, same.1, tie.1)
    | inr (inr none) ↦ absurd (omega (arith, none, one.some))
  ]
  | inr (inr none) ↦ absurd (omega (arith, none, two.some))
])
