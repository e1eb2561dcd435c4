-- The token that a cut leaves of a match.
use Rattle.std.specs.Prelude.{◌-◌, ℕ, Option, Some, None, if◌then◌else◌, nat_lt, nat_le, ◌&&◌}
use Rattle.ly_base.specs.declared.cut.Cut.{Cut}
use Rattle.ly_base.specs.declared.cut.Cut.TheVariants.{Whole, Head, Tail}

-- the length of the token of a match of n bytes, if the cut leaves at least one byte and no more than the match
abbrev pub token_len : Cut → ℕ → Option ℕ
token_len Whole n = Some n
token_len (Head len) n = if nat_lt 0 len && nat_le len n then Some len else None
token_len (Tail len) n = if nat_lt len n then Some (n - len) else None
