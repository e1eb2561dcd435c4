-- The error in a text, as a verdict.
use Rattle.std.specs.Prelude.{ℕ, map}
use Rattle.ly_base.specs.Lexed as lexed
use Rattle.ly_feed.specs.Verdict.{Verdict, refused, unmatched}
use Rattle.ly_feed.specs.declared.syntax_error.SyntaxError.{SyntaxError}
use Rattle.ly_feed.specs.declared.syntax_error.SyntaxError.TheVariants.{NoRule, Refused}
use Rattle.ly_parse.specs.declared.token.Token.{Token}

-- a token in memory
abbrev pub token_of : Token → lexed.Token ℕ
token_of t = record { terminal = t.terminal.0; at = t.at; bytes = t.text }

-- the verdict with this error
abbrev pub verdict_of : SyntaxError → Verdict
verdict_of (Refused number token expected) = refused number (token_of token) (map (λ s. s.0) expected.items)
verdict_of (NoRule byte) = unmatched byte
