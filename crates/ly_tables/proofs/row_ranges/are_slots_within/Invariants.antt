use Rattle.std.proofs.Common.{◌<◌, ℕ, slice_index}
use Rattle.ly_tables.specs.Private.RawValues.{comb_raw}
use Rattle.ly_tables.specs.RawSections.{IsSlotWithin}
use Rattle.ly_tables.specs.Ranges.{width_of}
use Rattle.ly_tables.proofs.row_ranges.are_slots_within.Given as goal

-- the slots so far are within
abbrev pub invariant-loop-slot : goal.invariant-loop-slot
invariant-loop-slot g l = (k : ℕ) → k < l.slot → IsSlotWithin (width_of l.version) l.columns (g.L.Legal.IsLegal l.legal)
    (comb_raw l.rows) k (slice_index l.rows.entries.items k) (slice_index l.rows.rows.items k)
