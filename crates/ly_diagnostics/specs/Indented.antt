-- The lines among the rules of a lex file that have no use and aren't empty.
use Rattle.std.specs.Prelude.{◌≡◌, ◌≢◌, ◌<◌, ℕ, List, [], All, AllPairs, codes}
use Rattle.std.specs.Str.{IsTrimAscii}
use Rattle.ly_lexread.specs.Lines.{BeginsWith, kind_of}
use Rattle.ly_lexread.specs.declared.kind.LineKind.TheVariants.{Unused}
use Rattle.ly_diagnostics.specs.Lines.{HasMark, IsLine}

-- Without the whitespace around it the line isn't empty, and it doesn't begin with a comment.
pub record HoldsWords (line : List ℕ) : Type 0 where
  pub words : List ℕ
  pub trimmed : IsTrimAscii line words
  pub some : words ≢ []
  pub no_comment : BeginsWith words (codes "/*") → ⊥

-- Line n of the text is after one that begins with `%%`. It begins with a blank, and contains words.
pub record IsIndented (text : List ℕ) (n : ℕ) : Type 0 where
  pub line : List ℕ
  pub is : IsLine text n line
  pub unused : kind_of line ≡ Unused
  pub holds : HoldsWords line
  pub before : ℕ
  pub earlier : before < n
  pub mark : HasMark text before

-- the lines with these numbers are such lines, in ascending order
pub record AreIndented (text : List ℕ) (numbers : List ℕ) : Type 0 where
  pub each : All (IsIndented text) numbers
  pub rising : AllPairs (λ m n. m < n) numbers
