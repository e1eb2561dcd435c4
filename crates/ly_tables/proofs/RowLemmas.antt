-- Rows of a file, slot by slot.
use Rattle.std.proofs.Common.{◌≡◌, ◌<◌, ◌≤◌, ℕ, All, length, arith, subst, slice_index}
use Rattle.std.specs.Int.{Width}
use Rattle.std.proofs.lemmas.Option.{get_or_from_slice_get, slice_get-get_or, slice_get_within}
use Rattle.ly_tables.specs.RawSections.{AreRowsWithin, IsSlotWithin}
use Rattle.ly_tables.specs.RawSet.{RawComb}

module _ (w : Width) (columns : ℕ) (legal : ℕ → ℕ → Type 0) (c : RawComb) where
  -- the slot of this number is within
  abbrev pub IsNumberedWithin : ℕ → Type 0
  IsNumberedWithin slot = IsSlotWithin w columns legal c slot (slice_index c.entries slot) (slice_index c.rows slot)

  pub rows_within : All (λ base. base ≤ length c.entries) c.bases
      → ((slot : ℕ) → slot < length c.entries → IsNumberedWithin slot) → AreRowsWithin w columns legal c
  rows_within bases slots = record {
    bases = bases;
    slots = λ slot entry row at_entry at_row.
        subst (λ e. IsSlotWithin w columns legal c slot e row) (get_or_from_slice_get c.entries slot entry 0 at_entry)
        (subst (λ r. IsSlotWithin w columns legal c slot (slice_index c.entries slot) r)
        (get_or_from_slice_get c.rows slot row 0 at_row)
        (slots slot (slice_get_within c.entries slot entry at_entry)));
  }

  pub slots_within : length c.rows ≡ length c.entries → AreRowsWithin w columns legal c
      → (slot : ℕ) → slot < length c.entries → IsNumberedWithin slot
  slots_within same rows slot lt = rows.slots slot (slice_index c.entries slot) (slice_index c.rows slot)
      (slice_get-get_or c.entries slot 0 lt) (slice_get-get_or c.rows slot 0 (omega (arith, same)))
