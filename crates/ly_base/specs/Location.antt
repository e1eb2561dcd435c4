-- The line and column that follow a prefix of a text.
use Rattle.std.specs.Prelude.{ℕ, ◌+◌, List, length, reverse, Bool, not, nat_eq, count_by}
use Rattle.std.specs.List.{take_while}
use Rattle.ly_base.specs.Bytes.{newline}

abbrev pub is_newline : ℕ → Bool
is_newline byte = nat_eq byte newline

-- the line, counted from 1: one more than the number of newlines in the prefix
abbrev pub line_behind : List ℕ → ℕ
line_behind front = 1 + count_by is_newline front

-- the column, counted from 1: one more than the number of bytes after the last newline of the prefix
abbrev pub column_behind : List ℕ → ℕ
column_behind front = 1 + length (take_while (λ byte. not (is_newline byte)) (reverse front))
