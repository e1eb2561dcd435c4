-- The bytes of a table file.
use Rattle.std.specs.Prelude.{◌≡◌, ℕ, List}
use Rattle.ly_base.specs.declared.version.Version.{Version}
use Rattle.ly_tables.specs.Ranges.{IsWithinVersion, number_of, width_of}
use Rattle.ly_tables.specs.Spelling.{spelling}
use Rattle.ly_tables.specs.TableSet.{TableSet}

-- the bytes spell the set, which is within the ranges of the version, in its numbers
abbrev pub TableText : List ℕ → Version → TableSet → Type 0
TableText bytes v s = IsWithinVersion v s × (bytes ≡ spelling (width_of v) (number_of v) s)
