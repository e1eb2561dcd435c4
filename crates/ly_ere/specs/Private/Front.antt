-- What stands at the front of a text.
use Rattle.std.specs.Prelude.{◌≡◌, ◌↔◌, ℕ, ◌+◌, List, [], ◌∷◌, ◌≤◌, ◌||◌, take, drop, length, nat_eq, IsTrue, Option}
use Rattle.std.specs.Prelude.{None, Some}
use Rattle.ly_base.specs.Blank.{is_blank}
use Rattle.ly_ere.specs.Elements.{Quoted}
use Rattle.ly_ere.specs.Expression.{Expression, set}
use Rattle.ly_ere.specs.Names.{Definition}
use Rattle.ly_ere.specs.Patterns.{IsBehind, IsExpression}

-- the relation says nothing of the front of the text
abbrev pub BeginsNo : {A : Type 0} → (List ℕ → A → List ℕ → Type 0) → List ℕ → Type 0
BeginsNo {A} R text = (a : A) (rest : List ℕ) → R text a rest → ⊥

-- so many bytes of the text are taken, at least one
abbrev pub IsTaken : List ℕ → ℕ → Type 0
IsTaken text n = (1 ≤ n) × (n ≤ length text)

-- the byte b, and then what is quoted behind it
abbrev pub IsMore : ℕ → List ℕ → List ℕ → List ℕ → Type 0
IsMore b more bs rest = (cs : List ℕ) × (bs ≡ b ∷ cs) × Quoted more cs rest

-- what is quoted begins with the byte b, which takes n bytes of the text
abbrev pub IsQuotedByte : List ℕ → ℕ → ℕ → Type 0
IsQuotedByte text b n = (bs rest : List ℕ) → Quoted text bs rest ↔ IsMore b (drop n text) bs rest

-- what may stand behind one side of a pattern: what may stand behind the pattern, `/` or `$`
abbrev pub CanEnd : List ℕ → Type 0
CanEnd [] = Unit {0}
CanEnd (b ∷ line) = IsTrue (is_blank b || nat_eq b 47 || nat_eq b 36)

-- The first n bytes of the line are the expression, and behind them stands what may stand behind a side.
pub record IsFrontExpression (names : List Definition) (line : List ℕ) (e : Expression) (n : ℕ) : Type 0 where
  pub within : n ≤ length line
  pub is_expression : IsExpression names (take n line) e
  pub follows : CanEnd (drop n line)

-- What stands behind a head, up to what may stand behind a pattern: nothing, `$`, or `/` and a tail.
pub data IsFrontTail (names : List Definition) : List ℕ → Option Expression → ℕ → Type 0 where
  none : (line : List ℕ) → IsBehind line → IsFrontTail names line None 0
  newline : (rest : List ℕ) → IsBehind rest → IsFrontTail names (36 ∷ rest) (Some (set (10 ∷ []))) 1
  tail : (rest : List ℕ) (f : Expression) (m : ℕ) → IsFrontExpression names rest f m → IsBehind (drop m rest)
      → IsFrontTail names (47 ∷ rest) (Some f) (m + 1)

-- A head, and what stands behind it, take n bytes in all.
pub record IsFrontTailed (names : List Definition) (line : List ℕ) (e : Expression) (t : Option Expression) (n : ℕ)
    : Type 0 where
  pub at : ℕ
  pub more : ℕ
  pub head : IsFrontExpression names line e at
  pub tail : IsFrontTail names (drop at line) t more
  pub is : n ≡ at + more
