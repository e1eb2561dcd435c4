-- The bytes of a text that are held.
use Rattle.std.specs.Prelude.{ℕ, List, Bool}
use Rattle.ly_base.specs.Lexed.{Place}

-- where the first of them stands
abbrev pub place_from : Bool → ℕ → ℕ → List ℕ → Place
place_from line condition at bytes = record { line = line; condition = condition; at = at; rest = bytes }
