-- Laws of the effect of a token.
use Rattle.std.specs.Prelude.{◌≡◌, ℕ, List}
use Rattle.ly_base.specs.Lexed.{Token}
use Rattle.ly_pack.specs.Machine.{Machine}
use Rattle.ly_parse.specs.Feeding.{Fed, Feeds, Level}

-- the outcome for a token is unique
abbrev pub FeedsInOneWay : Type 0
FeedsInOneWay = (m : Machine) (token : Token ℕ) (stack : List Level) (out other : Fed) → Feeds m token stack out
    → Feeds m token stack other → out ≡ other
