-- The lexer of a table set.
use Rattle.std.specs.Prelude.{◌≡◌}
use Rattle.ly_feed.specs.Passing.{ArePassedOver}
use Rattle.ly_feed.specs.ScanPart.{ScanPart, scanner_in}
use Rattle.ly_scan.specs.Lexers.{Lexer, scanner_of}

-- The lexer scans like the set's scanner, and skips lexemes without effect.
pub record IsLexerOf (p : ScanPart) (l : Lexer) : Type 0 where
  pub scanner : scanner_of l.scanner ≡ scanner_in p
  pub passed : ArePassedOver p l.passed
