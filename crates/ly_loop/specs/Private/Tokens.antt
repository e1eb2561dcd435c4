-- On which terminals runs are looked at.
use Rattle.std.specs.Prelude.{◌≡◌, ℕ, ◌<◌}
use Rattle.ly_pack.specs.Machine.{Machine}
use Rattle.ly_loop.specs.declared.tokens.Tokens.{Tokens}
use Rattle.ly_loop.specs.declared.tokens.Tokens.TheVariants.{All, One}

-- a terminal is one of them
abbrev pub IsOn : Machine → Tokens → ℕ → Type 0
IsOn m All t = t < m.terminals
IsOn m (One token) t = t ≡ token.0

-- they are terminals
abbrev pub AreThere : Machine → Tokens → Type 0
AreThere m All = Unit {0}
AreThere m (One token) = token.0 < m.terminals
