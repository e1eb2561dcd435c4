-- The entries of rows, taken apart.
use Rattle.std.proofs.Common.{◌≡◌, ◌∙◌, ◌+◌, inl, inr, ℕ, Option, Some, None, true, false}
use Rattle.std.proofs.Common.{slice_index, refl, sym, ap, arith, slice_get, nat_eq, nat_lt, lt-ltb, subst}
use Rattle.std.specs.Int.{Width}
use Rattle.std.specs.Prelude.{length, option_and_then}
use Rattle.std.proofs.lemmas.Bool.{cases_eq, cases_lt, eq-eqb, le-ltb, ne_eqb}
use Rattle.std.proofs.lemmas.Option.{none-some, same_Some}
use Rattle.ly_pack.specs.Rows.{Comb, Used, comb_entry, given_to}
use Rattle.ly_tables.specs.Private.Meaning.{comb_meant}
use Rattle.ly_tables.specs.RawSections.{AreRowsWithin}
use Rattle.ly_tables.specs.RawSet.{RawComb}
use Rattle.ly_tables.proofs.SlotLemmas.{used_within}

-- what a slot gives to a row
given_used : {E : Type 0} (row : ℕ) (u : Used E) (e : E) → given_to row u ≡ Some e → (u.row ≡ row) × (u.entry ≡ e)
given_used row u e is = elim (cases_eq u.row row) [
  | inl same ↦ let h : nat_eq u.row row ≡ true = eq-eqb u.row row same in (same, same_Some u.entry e (rw h at is))
  | inr other ↦ let h : nat_eq u.row row ≡ false = ne_eqb u.row row other in absurd (none-some e (rw h at is))
]

-- an entry of rows laid over one another stands in a slot that its row uses
pub comb_entry_used : {E : Type 0} (c : Comb E) (row column : ℕ) (e : E) → comb_entry c row column ≡ Some e
    → (base : ℕ) × (u : Used E) × (slice_get c.bases row ≡ Some base)
    × (slice_get c.slots (base + column) ≡ Some (Some u)) × (u.row ≡ row) × (u.entry ≡ e)
comb_entry_used {E} c row column e is = elim (cases_lt column c.width) [
  | inl lt ↦ let h : nat_lt column c.width ≡ true = lt-ltb column c.width lt in
      from_base (slice_get c.bases row) refl (rw h at is)
  | inr past ↦ let h : nat_lt column c.width ≡ false = le-ltb column c.width past in absurd (none-some e (rw h at is))
]
  where
    from_slot : (base : ℕ) (slot : Option (Option (Used E))) → slice_get c.slots (base + column) ≡ slot
        → slice_get c.bases row ≡ Some base
        → option_and_then (λ slot. option_and_then (given_to row) slot) slot ≡ Some e
        → (base : ℕ) × (u : Used E) × (slice_get c.bases row ≡ Some base)
        × (slice_get c.slots (base + column) ≡ Some (Some u)) × (u.row ≡ row) × (u.entry ≡ e)
    from_slot base None at starts is = absurd (none-some e is)
    from_slot base (Some None) at starts is = absurd (none-some e is)
    from_slot base (Some (Some u)) at starts is = let g = given_used row u e is in (base, u, starts, at, g.0, g.1)

    from_base : (base : Option ℕ) → slice_get c.bases row ≡ base
        → option_and_then (λ base. option_and_then (λ slot. option_and_then (given_to row) slot)
        (slice_get c.slots (base + column))) base ≡ Some e
        → (base : ℕ) × (u : Used E) × (slice_get c.bases row ≡ Some base)
        × (slice_get c.slots (base + column) ≡ Some (Some u)) × (u.row ≡ row) × (u.entry ≡ e)
    from_base None at is = absurd (none-some e is)
    from_base (Some base) at is = from_slot base (slice_get c.slots (base + column)) refl at is

-- the number of an entry may stand in its column
pub entry_legal : {E : Type 0} (w : Width) (meant : ℕ → E) (c : RawComb) → length c.rows ≡ length c.entries → (columns :
    ℕ)
    (legal : ℕ → ℕ → Type 0) → AreRowsWithin w columns legal c → (row column : ℕ) (e : E)
    → comb_entry (comb_meant w meant columns c) row column ≡ Some e → (n : ℕ) × legal column n × (e ≡ meant n)
entry_legal {E} w meant c long columns legal within row column e is =
    let found = comb_entry_used (comb_meant w meant columns c) row column e is in
    let base = found.0 in
    let u = found.1 in
    let used = used_within w meant c long columns legal within (base + column) u found.3 in
    let same : base ≡ used.0 = same_Some base used.0 (sym found.2 ∙ ap (slice_get c.bases) (sym found.4) ∙ used.2) in
    let there : used.1 ≡ column = omega (arith, used.4, same) in
    let n = slice_index c.entries (base + column) in
    (n, subst (λ k. legal k n) there used.5, sym found.5 ∙ used.6)
