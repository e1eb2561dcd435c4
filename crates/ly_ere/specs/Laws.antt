-- Statements of the laws of winners, expressions and patterns.
use Rattle.std.specs.Prelude.{◌≡◌, ℕ, List, length, Bool}
use Rattle.ly_ere.specs.Expression.{Expression, Matches}
use Rattle.ly_ere.specs.Lengths.{AreSound, IsSound}
use Rattle.ly_ere.specs.Grammar.{Alternation}
use Rattle.ly_ere.specs.Names.{Definition, defined}
use Rattle.ly_ere.specs.Patterns.{IsFrontPattern, IsPattern}
use Rattle.ly_ere.specs.Elements.{Element}
use Rattle.ly_ere.specs.declared.pattern.Pattern.{Pattern}
use Rattle.ly_ere.specs.declared.pattern.Rule.{Rule}
use Rattle.ly_ere.specs.Winner.{Winner, IsCut, FitsPattern}

-- two winners at one offset have the same rule and length
abbrev pub WinnerIsOne : Type 0
WinnerIsOne = (names : List Expression) (rules : List Rule) (condition : ℕ) (line : Bool) (rest : List ℕ)
    (i n m j k l : ℕ) → Winner names rules condition line rest i n m → Winner names rules condition line rest j k l
    → (i ≡ j) × (n ≡ k)

-- with a right cut the length of a match determines that of its token
abbrev pub SplitIsOne : Type 0
SplitIsOne = (names : List Expression) (p : Pattern) (rest : List ℕ) (n m l : ℕ) → IsCut names p
    → FitsPattern names p rest n m → FitsPattern names p rest n l → m ≡ l

-- elements have at most one parse as an expression
abbrev pub PhraseIsOne : Type 0
PhraseIsOne = (names : List Definition) (ws : List Element) (e f : Expression) → Alternation names ws e
    → Alternation names ws f → e ≡ f

-- a text has at most one pattern as its meaning
abbrev pub PatternIsOne : Type 0
PatternIsOne = (names : List Definition) (text : List ℕ) (p q : Pattern) → IsPattern names text p
    → IsPattern names text q → p ≡ q

-- a line starts with at most one pattern
abbrev pub FrontPatternIsOne : Type 0
FrontPatternIsOne = (names : List Definition) (line : List ℕ) (p q : Pattern) (n m : ℕ)
    → IsFrontPattern names line p n → IsFrontPattern names line q m → (p ≡ q) × (n ≡ m)

-- an expression matches some string, if its sets have members and the definitions of its names match some
abbrev pub ExpressionHasString : Type 0
ExpressionHasString = (names : List Expression) (e : Expression) → AreSound names → IsSound (length names) e
    → (w : List ℕ) × Matches names e w

-- the cut of a pattern is right
abbrev pub CutIsTrue : Type 0
CutIsTrue = (names : List Definition) (text : List ℕ) (p : Pattern) → IsPattern names text p → IsCut (defined names) p
