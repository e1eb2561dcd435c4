-- Lexemes of one byte whose rule is skipped.
use Rattle.std.specs.Prelude.{◌≡◌, ◌<◌, ℕ, [], ◌∷◌, ◌++◌, List, Bool, None, Some, false, true, get_or, slice_get}
use Rattle.ly_base.specs.Lexed.{Place}
use Rattle.ly_base.specs.declared.cut.Cut.TheVariants.{Whole}
use Rattle.ly_base.specs.declared.lexeme.Lexeme.{Lexeme}
use Rattle.ly_scan.specs.Lexer.{Scanner}
use Rattle.ly_scan.specs.Pieces.{IsDecided}

-- a byte alone, at the start of a line or not, has a rule that is skipped and has no trailing context
pub record IsOfPassed (s : Scanner) (passed : List Bool) (line : Bool) (byte : ℕ) : Type 0 where
  pub rule : ℕ
  pub is_passed : slice_get passed rule ≡ Some true
  pub whole : s.cut rule ≡ Whole
  pub walked : s.walk 0 line (byte ∷ []) ≡ Some (Some rule)

-- Bytes that begin a lexeme, and bytes that may extend one. A byte that begins one has a rule that is skipped, and its
-- walk ends before a byte that doesn't extend it. A walk that has ended stays ended.
pub record AreLone (s : Scanner) (passed : List Bool) (l : List Bool × List Bool) : Type 0 where
  pub begin : (b : ℕ) (line : Bool) → get_or l.0 b false ≡ true → IsOfPassed s passed line b
  pub end : (b c : ℕ) (line : Bool) → c < 256 → get_or l.0 b false ≡ true → get_or l.1 c false ≡ false
      → s.walk 0 line (b ∷ c ∷ []) ≡ None
  pub stays_ended : (line : Bool) (text more : List ℕ) → s.walk 0 line text ≡ None → s.walk 0 line (text ++ more) ≡ None

-- a skipped lexeme of one byte begins at the place, whatever bytes follow the known ones
pub record IsLoneAt (s : Scanner) (passed : List Bool) (p : Place) : Type 0 where
  pub lexeme : Lexeme
  pub stands : IsDecided false s p lexeme
  pub one : lexeme.taken ≡ 1
  pub is_passed : slice_get passed lexeme.rule.0 ≡ Some true
