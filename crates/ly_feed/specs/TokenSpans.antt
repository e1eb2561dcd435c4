-- The spans of a text's tokens.
use Rattle.std.specs.Prelude.{◌≡◌, ℕ, List, map}
use Rattle.ly_base.specs.Lexed.{Token, start_of}
use Rattle.ly_base.specs.declared.lexeme.End.{End}
use Rattle.ly_feed.specs.ScanPart.{ScanPart}
use Rattle.ly_feed.specs.TableAnswer.{AreTokens}
use Rattle.ly_spans.specs.Spans.{span_of}
use Rattle.ly_spans.specs.declared.span.Span.{Span}

-- The scanner's run over a text finds tokens with these spans, however it ends.
pub record AreSpansOf (p : ScanPart) (text : List ℕ) (spans : List Span) : Type 0 where
  pub tokens : List (Token ℕ)
  pub end : End
  pub are_tokens : AreTokens p (start_of text) tokens end
  pub are : spans ≡ map span_of tokens
