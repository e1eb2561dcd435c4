-- Matches in a text that may have more bytes.
use Rattle.std.specs.Prelude.{◌≡◌, ◌≢◌, ◌≤◌, ℕ, List, [], ◌++◌, Bool, None, Some, false, true, length, slice_get}
use Rattle.ly_base.specs.Lexed.{Place, moved}
use Rattle.ly_base.specs.declared.lexeme.End.{End}
use Rattle.ly_base.specs.declared.lexeme.Lexeme.{Lexeme}
use Rattle.ly_scan.specs.Lexer.{IsLexemeAt, ScanEndsAt, Scanner}

-- a place after more bytes have arrived
abbrev pub behind : Place → List ℕ → Place
behind q more = record { line = q.line; condition = q.condition; at = q.at; rest = q.rest ++ more }

-- the bytes that may follow the known ones: any, but none if the text has ended
abbrev pub CanFollow : Bool → List ℕ → Type 0
CanFollow ended more = ended ≡ true → more ≡ []

-- The place has this lexeme, whatever bytes follow the known ones.
pub record IsDecided (ended : Bool) (s : Scanner) (q : Place) (t : Lexeme) : Type 0 where
  pub is : (more : List ℕ) → CanFollow ended more → IsLexemeAt s (behind q more) t
  pub some : 1 ≤ t.taken
  pub within : t.taken ≤ length q.rest

-- scanning ends at the place in this way, whatever bytes follow
abbrev pub EndIsDecided : Bool → Scanner → Place → End → Type 0
EndIsDecided ended s q e = (more : List ℕ) → CanFollow ended more → ScanEndsAt s (behind q more) e

-- the match at a place is undecided: its walk continues over all known bytes
abbrev pub IsUndecided : Scanner → Place → Type 0
IsUndecided s q = q.rest ≢ [] → s.walk q.condition q.line q.rest ≢ None

-- Skipped lexemes of one byte lead from a place to another, whatever bytes follow.
pub data PassesOver (s : Scanner) (passed : List Bool) (q : Place) : Place → Type 0 where
  none_yet : PassesOver s passed q q
  and_one : {r : Place} (t : Lexeme) → PassesOver s passed q r → IsDecided false s r t → t.taken ≡ 1
      → slice_get passed t.rule.0 ≡ Some true → PassesOver s passed q (moved r 1 None)
