-- The reasons to reject bytes as a table file, in their order.
use Rattle.std.specs.Prelude.{◌≡◌, ◌≢◌, ◌⊎◌, ℕ, ◌<◌, List, [], ◌++◌, length, take, codes}
use Rattle.std.specs.Int.{w16, to_be_bytes}
use Rattle.ly_base.specs.declared.version.Version.{Version}
use Rattle.ly_pack.specs.Steady.{IsSteady}
use Rattle.ly_tables.specs.Ranges.{counts_of, number_of, width_of}
use Rattle.ly_tables.specs.RawSections.{Section, IsFirstOut, section_number}
use Rattle.ly_tables.specs.RawSet.{RawSet, IsRawSet, raw_spelling}
use Rattle.ly_tables.specs.TableSet.{TableSet, machine_of}
use Rattle.ly_tables.specs.TableText.{TableText}

-- the bytes of numbers in a version
abbrev pub raw_file : Version → RawSet → List ℕ
raw_file v r = raw_spelling (width_of v) (number_of v) r

-- the first four bytes, or all bytes of a shorter file, aren't a prefix of `LYTB`
abbrev pub HasOtherMagic : List ℕ → Type 0
HasOtherMagic bytes = take 4 bytes ≢ take (length bytes) (codes "LYTB")

-- the bytes after them are the number of no version
abbrev pub HasOtherVersion : List ℕ → Type 0
HasOtherVersion bytes = (other : ℕ) × (rest : List ℕ) × (other < 65536) × ((v : Version) → other ≢ number_of v)
    × (bytes ≡ codes "LYTB" ++ to_be_bytes w16 other ++ rest)

-- the version is missing: at most one byte follows the first four bytes, or the file is shorter
abbrev pub LacksVersion : List ℕ → Type 0
LacksVersion bytes = (length bytes < 6) × (take 4 bytes ≡ take (length bytes) (codes "LYTB"))

-- the bytes are a proper prefix of a file of some numbers, in some version
abbrev pub IsBegun : List ℕ → Type 0
IsBegun bytes = (v : Version) × (r : RawSet) × (missing : List ℕ) × IsRawSet (width_of v) r × (missing ≢ [])
    × (bytes ++ missing ≡ raw_file v r)

-- a field is missing: the version, or another
abbrev pub IsTruncated : List ℕ → Type 0
IsTruncated bytes = LacksVersion bytes ⊎ IsBegun bytes

-- there are bytes after a file of some numbers
abbrev pub HasTrailing : List ℕ → Type 0
HasTrailing bytes = (v : Version) × (r : RawSet) × (left : List ℕ) × IsRawSet (width_of v) r × (left ≢ [])
    × (bytes ≡ raw_file v r ++ left)

-- the section with this number is the first with numbers out of its ranges
abbrev pub IsOutOfRange : ℕ → List ℕ → Type 0
IsOutOfRange number bytes = (v : Version) × (r : RawSet) × (section : Section) × IsRawSet (width_of v) r
    × (bytes ≡ raw_file v r) × IsFirstOut (width_of v) (counts_of v) r section × (number ≡ section_number section)

-- the file is that of a set whose parser's tables aren't steady
abbrev pub IsEndlessSet : List ℕ → Type 0
IsEndlessSet bytes = (v : Version) × (s : TableSet) × TableText bytes v s × (IsSteady (machine_of s) → ⊥)
