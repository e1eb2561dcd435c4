-- Combs, as contracts see them.
use Rattle.std.specs.Prelude.{ℕ, List, Option, length, map}
use Rattle.std.specs.Option.{option_map}
use Rattle.ly_pack.specs.Placement.{IsPlaced, Table}
use Rattle.ly_pack.specs.Rows.{Comb, Used, comb_entry}
use Rattle.ly_pack.specs.declared.comb_rows.Slot.{Slot}

abbrev pub used_from : {E : Type 0} → Slot E → Used E
used_from s = record { row = s.row.0; entry = s.entry }

abbrev pub slots_from : {E : Type 0} → List (Option (Slot E)) → List (Option (Used E))
slots_from slots = map (option_map used_from) slots

abbrev pub comb_from : {E : Type 0} → ℕ → List ℕ → List (Option (Slot E)) → Comb E
comb_from width bases slots = record { width = width; bases = bases; slots = slots_from slots }

-- the table that a comb represents
abbrev pub table_in : {E : Type 0} → Comb E → Table E
table_in c = record { entries = comb_entry c; rows = length c.bases; width = c.width }

-- the rows of the comb are placed by first fit
abbrev pub IsFirstFit : {E : Type 0} → Comb E → Type 0
IsFirstFit c = IsPlaced (table_in c) c
