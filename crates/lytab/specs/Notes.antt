-- What `--where` prints.
use Rattle.std.specs.Prelude.{◌≡◌, ℕ, List, ◌++◌, Option, OnSome, take}
use Rattle.ly_base.specs.Location.{column_behind, line_behind}
use Rattle.ly_base.specs.declared.location.Location.{Location}
use Rattle.ly_text_buffer.specs.TextBuffer.{behind, location_in}

-- The location of a byte of a file is printed first, or that of the file's end if it has no such byte.
abbrev pub SaysPlaceOf : List ℕ → List ℕ → ℕ → Option (List ℕ) → Option (List ℕ) → Type 0
SaysPlaceOf name bytes byte old new = OnSome new ((at : Location) × (rest : List ℕ)
    × (at.line ≡ line_behind (take byte bytes)) × (at.column ≡ column_behind (take byte bytes))
    × (new ≡ behind old (location_in name at ++ rest)))
