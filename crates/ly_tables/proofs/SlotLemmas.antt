-- Rows of a file and what they mean.
use Rattle.std.proofs.Common.{◌≡◌, ◌∙◌, ◌≢◌, ◌<◌, ◌≤◌, ◌+◌, inl, inr, ℕ, zero, suc, List, [], ◌∷◌, ◌++◌, length, map}
use Rattle.std.proofs.Common.{refl, sym, ap, subst, arith, Some, take, get_or, nat_eq, slice_get}
use Rattle.std.proofs.Common.{true, false, slice_index}
use Rattle.std.specs.Int.{Width}
use Rattle.std.specs.List.{zip}
use Rattle.std.specs.Prelude.{option_map}
use Rattle.std.proofs.lemmas.Bool.{cases_eq, eq-eqb, ne_eqb}
use Rattle.std.proofs.lemmas.List.{get_or_default, length-map}
use Rattle.std.proofs.lemmas.Option.{get_or_from_slice_get, none-some, same_Some, slice_get-get_or, slice_get-map}
use Rattle.std.proofs.lemmas.Option.{slice_get_within}
use Rattle.std.proofs.lemmas.Slice.Zip.{firsts-zip, get_or-zip, length-zip, seconds-zip}
use Rattle.ly_pack.specs.Rows.{IsComb, Used}
use Rattle.ly_tables.specs.Private.Meaning.{comb_meant, slot_meant, slots_meant}
use Rattle.ly_tables.specs.RawOf.{raw_comb_of}
use Rattle.ly_tables.specs.RawSections.{AreRowsWithin}
use Rattle.ly_tables.specs.RawSet.{RawComb}
use Rattle.ly_tables.specs.Spelling.{check_of, next_of, none_of}
use Rattle.ly_tables.proofs.ItemLemmas.{map_back}

-- one more pair
pub zip_more : {A B : Type 0} (xs : List A) (ys : List B) (k : ℕ) (d : A) (e : B) → k < length xs
    → length ys ≡ length xs
    → zip (take (suc k) xs) (take (suc k) ys) ≡ zip (take k xs) (take k ys) ++ (get_or xs k d, get_or ys k e) ∷ []
zip_more [] ys k d e lt long = absurd (omega (arith, lt))
zip_more (x ∷ xs) [] k d e lt long = absurd (omega (arith, long))
zip_more (x ∷ xs) (y ∷ ys) zero d e lt long = refl
zip_more (x ∷ xs) (y ∷ ys) (suc k) d e lt long = ap (λ ps. (x, y) ∷ ps)
    (zip_more xs ys k d e (omega (arith, lt)) (omega (arith, long)))

-- a slot that is used, taken apart
slot_used : {E : Type 0} (w : Width) (meant : ℕ → E) (entry row : ℕ) (u : Used E) → slot_meant w meant entry row ≡ Some
    u
    → (row ≢ none_of w) × (u.row ≡ row) × (u.entry ≡ meant entry)
slot_used {E} w meant entry row u is = elim (cases_eq row (none_of w)) [
  | inl none ↦ let e : nat_eq row (none_of w) ≡ true = eq-eqb row (none_of w) none in absurd (none-some u (rw e at is))
  | inr other ↦ let e : nat_eq row (none_of w) ≡ false = ne_eqb row (none_of w) other in
      let same = same_Some (record { row = row; entry = meant entry }) u (rw e at is) in
      (other, sym (ap (λ (v : Used E). v.row) same), sym (ap (λ (v : Used E). v.entry) same))
]

module _ {E : Type 0} (w : Width) (meant : ℕ → E) (c : RawComb) (long : length c.rows ≡ length c.entries) where
  pub length-slots : length (slots_meant w meant c) ≡ length c.entries
  length-slots = length-map (zip c.entries c.rows) (λ (p : ℕ × ℕ). slot_meant w meant p.0 p.1)
      ∙ length-zip c.entries c.rows ∙ omega (arith, long)

  -- what a slot was made of
  slot_at : (k : ℕ) → k < length c.entries
      → slice_get (slots_meant w meant c) k ≡ Some (slot_meant w meant (slice_index c.entries k) (slice_index c.rows k))
  slot_at k lt = slice_get-map (λ (p : ℕ × ℕ). slot_meant w meant p.0 p.1) (zip c.entries c.rows) k
      ∙ ap (option_map (λ (p : ℕ × ℕ). slot_meant w meant p.0 p.1))
      (slice_get-get_or (zip c.entries c.rows) k (0, 0) (omega (arith, lt, long, length-zip c.entries c.rows))
      ∙ ap Some (get_or-zip c.entries c.rows k (0, 0) lt (omega (arith, lt, long))))

  pub used_at : (k : ℕ) (u : Used E) → slice_get (slots_meant w meant c) k ≡ Some (Some u)
      → (k < length c.entries) × (slice_index c.rows k ≢ none_of w) × (u.row ≡ slice_index c.rows k)
      × (u.entry ≡ meant (slice_index c.entries k))
  used_at k u is =
      let lt : k < length c.entries
      = omega (arith, slice_get_within (slots_meant w meant c) k (Some u) is, length-slots) in
      let parts = slot_used w meant (slice_index c.entries k) (slice_index c.rows k) u
      (same_Some (slot_meant w meant (slice_index c.entries k) (slice_index c.rows k)) (Some u)
      (sym (slot_at k lt) ∙ is)) in
      (lt, parts.0, parts.1, parts.2)

  module _ (columns : ℕ) (legal : ℕ → ℕ → Type 0) (within : AreRowsWithin w columns legal c) where
    -- where a used slot lies
    pub used_within : (k : ℕ) (u : Used E) → slice_get (slots_meant w meant c) k ≡ Some (Some u)
        → (base column : ℕ) × (slice_get c.bases u.row ≡ Some base) × (column < columns) × (k ≡ base + column)
        × legal column (slice_index c.entries k) × (u.entry ≡ meant (slice_index c.entries k))
    used_within k u is =
        let used = used_at k u is in
        elim (within.slots k (slice_index c.entries k) (slice_index c.rows k)
        (slice_get-get_or c.entries k 0 used.0) (slice_get-get_or c.rows k 0 (omega (arith, used.0, long)))) [
          | inl free ↦ absurd (used.1 free.0)
          | inr (base, column, at, lt, so, fits) ↦
              (base, column, ap (slice_get c.bases) used.2 ∙ at, lt, so, fits, used.3)
        ]

    pub comb_within : IsComb (comb_meant w meant columns c)
    comb_within = record {
      bases = λ row base at. let le : base ≤ length c.entries = within_base row base at in
          omega (arith, le, length-slots);
      slots = λ k u is. let w = used_within k u is in (w.0, w.2, omega (arith, w.4), omega (arith, w.3, w.4));
    }
      where
        within_base : (row base : ℕ) → slice_get c.bases row ≡ Some base → base ≤ length c.entries
        within_base row base at = subst (λ b. b ≤ length c.entries) (get_or_from_slice_get c.bases row base 0 at)
            (within.bases row 0 (slice_get_within c.bases row base at))

    module _ (code : E → ℕ) (back : (column n : ℕ) → legal column n → code (meant n) ≡ n)
        (few : length c.bases ≤ none_of w) where
      slot_back : (k : ℕ) (lt : k < length c.entries)
          → (next_of code (slot_meant w meant (slice_index c.entries k) (slice_index c.rows k)) ≡ slice_index c.entries
          k)
          × (check_of w (slot_meant w meant (slice_index c.entries k) (slice_index c.rows k)) ≡ slice_index c.rows k)
      slot_back k lt =
          elim (within.slots k (slice_index c.entries k) (slice_index c.rows k)
          (slice_get-get_or c.entries k 0 lt) (slice_get-get_or c.rows k 0 (omega (arith, lt, long)))) [
            | inl free ↦
                let e : nat_eq (slice_index c.rows k) (none_of w) ≡ true = eq-eqb (slice_index c.rows k) (none_of w)
                free.0 in
                rw e (sym free.1, sym free.0)
            | inr (base, column, at, lt, so, fits) ↦
                let other : slice_index c.rows k ≢ none_of w
                = λ same. omega (arith, same, few, slice_get_within c.bases (slice_index c.rows k) base at) in
                let e : nat_eq (slice_index c.rows k) (none_of w) ≡ false = ne_eqb (slice_index c.rows k) (none_of w)
                other in
                rw e (back column (slice_index c.entries k) fits, refl)
          ]

      pub comb_back : raw_comb_of w code (comb_meant w meant columns c) ≡ c
      comb_back = λ i. record { bases = c.bases; entries = entries_back i; rows = rows_back i }
        where
          at : (k : ℕ) (d : ℕ × ℕ) → k < length (zip c.entries c.rows) → (P : ℕ × ℕ → Type 0)
              → (k < length c.entries → P (slice_index c.entries k, slice_index c.rows k))
              → P (get_or (zip c.entries c.rows) k d)
          at k d lt P holds =
              let inside : k < length c.entries = omega (arith, lt, long, length-zip c.entries c.rows) in
              subst P (sym (get_or-zip c.entries c.rows k (0, 0) inside (omega (arith, inside, long)))
              ∙ get_or_default (zip c.entries c.rows) k (0, 0) d lt) (holds inside)

          entries_back : map (next_of code) (slots_meant w meant c) ≡ c.entries
          entries_back = map_back (λ (p : ℕ × ℕ). slot_meant w meant p.0 p.1) (next_of code) (λ (p : ℕ × ℕ). p.0)
              (zip c.entries c.rows) (λ k d lt.
              at k d lt (λ (p : ℕ × ℕ). next_of code (slot_meant w meant p.0 p.1) ≡ p.0)
              (λ inside. (slot_back k inside).0))
              ∙ firsts-zip c.entries c.rows long

          rows_back : map (check_of w) (slots_meant w meant c) ≡ c.rows
          rows_back = map_back (λ (p : ℕ × ℕ). slot_meant w meant p.0 p.1) (check_of w) (λ (p : ℕ × ℕ). p.1)
              (zip c.entries c.rows) (λ k d lt.
              at k d lt (λ (p : ℕ × ℕ). check_of w (slot_meant w meant p.0 p.1) ≡ p.1)
              (λ inside. (slot_back k inside).1))
              ∙ seconds-zip c.entries c.rows long
