-- Tokens that a parser's tables read, one after another.
use Rattle.std.specs.Prelude.{ℕ, List, [], ◌∷◌}
use Rattle.ly_base.specs.Lexed.{Token}
use Rattle.ly_pack.specs.Machine.{Machine}
use Rattle.ly_parse.specs.Feeding.{Feeds, Level, pushed}

-- The next token is processed with the stack that each token leaves.
pub data ReadsTokens (m : Machine) : List Level → List (Token ℕ) → List Level → Type 0 where
  at_end : {levels : List Level} → ReadsTokens m levels [] levels
  onward : {levels next last : List Level} {token : Token ℕ} {tokens : List (Token ℕ)}
      → Feeds m token levels (pushed next) → ReadsTokens m next tokens last → ReadsTokens m levels (token ∷ tokens) last
