-- The lines of a file.
use Rattle.std.specs.Prelude.{ℕ, zero, suc, List, Option, None, slice_get, ◌==◌}
use Rattle.std.specs.List.{slice_split}
use Rattle.ly_base.specs.Bytes.{newline}

-- the line with a number, without its newline; the first line is 1
abbrev pub line_at : List ℕ → ℕ → Option (List ℕ)
line_at bytes zero = None
line_at bytes (suc before) = slice_get (slice_split (λ byte. byte == newline) bytes) before
