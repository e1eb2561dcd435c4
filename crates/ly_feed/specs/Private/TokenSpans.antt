-- The spans of tokens, listed lexeme by lexeme.
use Rattle.std.specs.Prelude.{◌≡◌, ℕ, List, ◌++◌, map}
use Rattle.ly_base.specs.Lexed.{Place, Token}
use Rattle.ly_base.specs.declared.lexeme.End.{End}
use Rattle.ly_feed.specs.ScanPart.{ScanPart}
use Rattle.ly_feed.specs.TableAnswer.{AreTokens}
use Rattle.ly_spans.specs.Spans.{span_of}
use Rattle.ly_spans.specs.declared.span.Span.{Span}

-- A run of a scanner leads from the one place to the other, and these are the spans of the tokens on the way.
pub record AreListed (p : ScanPart) (q : Place) (spans : List Span) (r : Place) : Type 0 where
  pub tokens : List (Token ℕ)
  pub listed : spans ≡ map span_of tokens
  pub front : (ts : List (Token ℕ)) (e : End) → AreTokens p r ts e → AreTokens p q (tokens ++ ts) e

-- Spans that are listed up to a place become those up to another one.
abbrev pub AreListedOn : ScanPart → List Span → Place → List Span → Place → Type 0
AreListedOn p before q after r = (start : Place) → AreListed p start before q → AreListed p start after r
