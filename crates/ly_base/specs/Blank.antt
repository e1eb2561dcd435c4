-- Blanks of both input languages.
use Rattle.std.specs.Prelude.{ℕ, Bool, ◌||◌, nat_eq}
use Rattle.ly_base.specs.Bytes.{space, tab}

-- a space or a tab
abbrev pub is_blank : ℕ → Bool
is_blank b = nat_eq b space || nat_eq b tab
