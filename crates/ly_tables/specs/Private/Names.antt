-- The names of terminals.
use Rattle.std.specs.Prelude.{◌≡◌, ℕ, List, All, Some, slice_get, codes}
use Rattle.ly_tables.specs.Ranges.{IsNameLong}

-- the first two are those of the end and of no token
abbrev pub BeginWithSpecials : List (List ℕ) → Type 0
BeginWithSpecials names = (slice_get names 0 ≡ Some (codes "$end")) × (slice_get names 1 ≡ Some (codes "$undef"))

-- and each has a length that is allowed
abbrev pub AreNamesWithin : List (List ℕ) → Type 0
AreNamesWithin names = All IsNameLong names × BeginWithSpecials names
