-- Statements of the laws of lexings.
use Rattle.std.specs.Prelude.{◌≡◌, ℕ, List, ◌++◌, Option}
use Rattle.ly_base.specs.Lexed.{LexedTo, Place}
use Rattle.ly_base.specs.declared.lexeme.End.{End}
use Rattle.ly_base.specs.declared.lexeme.Lexeme.{Lexeme}
use Rattle.ly_ere.specs.Expression.{Expression}
use Rattle.ly_ere.specs.Winner.{AreCut}
use Rattle.ly_ere.specs.declared.pattern.Rule.{Rule}
use Rattle.ly_lexread.specs.Lexing.{IsWinnerAt, Lexing}

-- a text has one lexing, if each cut is right
abbrev pub LexingIsOne : Type 0
LexingIsOne = (names : List Expression) (rules : List Rule) (next : ℕ → Option ℕ) (p : Place) (ts us : List Lexeme)
    (e f : End) → AreCut names rules → Lexing names rules next p ts e → Lexing names rules next p us f
    → (ts ≡ us) × (e ≡ f)

-- a prefix of a lexing, followed by a lexing of the rest, is a lexing
abbrev pub LexingGoesOn : Type 0
LexingGoesOn = (names : List Expression) (rules : List Rule) (next : ℕ → Option ℕ) (p q : Place) (ts us : List Lexeme)
    (e : End) → LexedTo (IsWinnerAt names rules) next p ts q → Lexing names rules next q us e
    → Lexing names rules next p (ts ++ us) e
