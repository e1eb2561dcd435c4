-- Laws of table files.
use Rattle.std.specs.Prelude.{◌≡◌, ◌++◌, ℕ, List}
use Rattle.std.specs.Int.{Width}
use Rattle.ly_base.specs.declared.version.Version.{Version}
use Rattle.ly_base.specs.declared.version.Version.TheVariants.{V2}
use Rattle.ly_pack.specs.Steady.{IsSteady}
use Rattle.ly_tables.specs.Ranges.{IsWithinVersion, counts_of, width_of}
use Rattle.ly_tables.specs.RawOf.{raw_of}
use Rattle.ly_tables.specs.RawSections.{AreSectionsWithin}
use Rattle.ly_tables.specs.RawSet.{IsRawSet, RawSet, raw_spelling}
use Rattle.ly_tables.specs.Refusal.{IsRefusedAs}
use Rattle.ly_tables.specs.Spelling.{spelling}
use Rattle.ly_tables.specs.TableSet.{TableSet, machine_of}
use Rattle.ly_tables.specs.TableText.{TableText}
use Rattle.ly_tables.specs.declared.fault.TableFault.{TableFault}
use Rattle.ly_tables.specs.declared.fault.TableFault.TheVariants.{OutOfMemory}

-- two files of one set, in one version, are equal
abbrev pub HasOneSpelling : Type 0
HasOneSpelling = (a b : List ℕ) (v : Version) (s : TableSet) → TableText a v s → TableText b v s → a ≡ b

-- a set is spelled like its numbers
abbrev pub IsSpelledByNumbers : Type 0
IsSpelledByNumbers = (w : Width) (version : ℕ) (s : TableSet)
    → spelling w version s ≡ raw_spelling w version (raw_of w s)

-- the numbers of a set that is within a version's ranges fit their fields, and are within the ranges of their sections
abbrev pub AreNumbersWithin : Type 0
AreNumbersWithin = (v : Version) (s : TableSet) → IsWithinVersion v s
    → IsRawSet (width_of v) (raw_of (width_of v) s)
    × AreSectionsWithin (width_of v) (counts_of v) (raw_of (width_of v) s)

-- a set that is within a version's ranges is within those of version 2
abbrev pub IsWithinVersion2 : Type 0
IsWithinVersion2 = (v : Version) (s : TableSet) → IsWithinVersion v s → IsWithinVersion V2 s

-- two sets of one file are equal, and so are their versions
abbrev pub HasOneSet : Type 0
HasOneSet = (bytes : List ℕ) (v w : Version) (a b : TableSet) → TableText bytes v a → TableText bytes w b
    → (v ≡ w) × (a ≡ b)

-- rejected bytes, unless memory ran out, are the file of no set whose tables are steady, in no version
abbrev pub IsRefusalExact : Type 0
IsRefusalExact = (bytes : List ℕ) (v : Version) (s : TableSet) (fault : TableFault) → IsRefusedAs bytes fault
    → (fault ≡ OutOfMemory → ⊥) → TableText bytes v s → IsSteady (machine_of s) → ⊥

-- whatever bytes follow, they don't make files of different numbers equal: a file of some numbers is no prefix of one
-- of others
abbrev pub RawIsOne : Width → Type 0
RawIsOne w = (version : ℕ) (a b : RawSet) (x y : List ℕ) → IsRawSet w a → IsRawSet w b
    → raw_spelling w version a ++ x ≡ raw_spelling w version b ++ y → (a ≡ b) × (x ≡ y)
