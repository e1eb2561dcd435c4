-- The meaning of a pattern's text.
use Rattle.std.specs.Prelude.{◌≡◌, ◌≢◌, ◌⊎◌, ℕ, ◌<◌, ◌≤◌, List, [], ◌∷◌, take, drop, length, Option, None, Some, IsTrue}
use Rattle.std.specs.Prelude.{IsSome}
use Rattle.ly_base.specs.Blank.{is_blank}
use Rattle.ly_base.specs.declared.cut.Cut.{Cut}
use Rattle.ly_base.specs.declared.cut.Cut.TheVariants.{Whole, Head, Tail}
use Rattle.ly_ere.specs.Expression.{Expression, Matches}
use Rattle.ly_ere.specs.Faults.{ere_kind}
use Rattle.ly_ere.specs.Grammar.{Alternation, AreSides, Sides}
use Rattle.ly_ere.specs.Elements.{Element, AreElements}
use Rattle.ly_ere.specs.Names.{Definition, defined}
use Rattle.ly_ere.specs.Weight.{weight_of_both}
use Rattle.ly_ere.specs.Winner.{HasLength}
use Rattle.ly_ere.specs.declared.fault.EreFault.{EreFault}
use Rattle.ly_ere.specs.declared.fault.EreFault.TheVariants.{OutOfMemory}
use Rattle.ly_ere.specs.declared.fault.EreFaultKind.TheVariants.{TooHeavy, TrailingBothVary, TrailingHeadEmpty}
use Rattle.ly_ere.specs.declared.pattern.Pattern.{Pattern}

-- the text's elements are the expression, with these definitions of names
abbrev pub IsExpression : List Definition → List ℕ → Expression → Type 0
IsExpression names text e = (ws : List Element) × AreElements text ws × Alternation names ws e

-- the text's elements are the sides of a pattern
abbrev pub SpellsSides : List Definition → List ℕ → Sides → Type 0
SpellsSides names text s = (ws : List Element) × AreElements text ws × AreSides names ws s

-- the expression matches some string, and each that it matches has this length
pub record HasOneLength (names : List Expression) (e : Expression) (n : ℕ) : Type 0 where
  pub string : List ℕ
  pub belongs : Matches names e string
  pub all : HasLength names e n

-- the strings of the expression have no one length
abbrev pub Varies : List Expression → Expression → Type 0
Varies names e = (n : ℕ) → HasOneLength names e n → ⊥

-- the cut of a head and a tail: Head if the head has one length, else Tail
abbrev pub IsCutOf : List Expression → Expression → Option Expression → Cut → Type 0
IsCutOf names head None cut = cut ≡ Whole
IsCutOf names head (Some tail) cut = ((n : ℕ) × HasOneLength names head n × (cut ≡ Head n))
    ⊎ (Varies names head × (n : ℕ) × HasOneLength names tail n × (cut ≡ Tail n))

-- a pattern without its cut
abbrev pub sides_of : Pattern → Sides
sides_of p = record { line_start = p.line_start; head = p.head; tail = p.tail }

-- The text is the pattern. A head before a tail doesn't match the empty string.
pub record IsPattern (names : List Definition) (text : List ℕ) (p : Pattern) : Type 0 where
  pub sides : SpellsSides names text (sides_of p)
  pub is_cut : IsCutOf (defined names) p.head p.tail p.cut
  pub some_head : IsSome p.tail → Matches (defined names) p.head [] → ⊥

-- what may follow a pattern on its line: nothing, or a text that starts with a blank
abbrev pub IsBehind : List ℕ → Type 0
IsBehind [] = Unit {0}
IsBehind (b ∷ line) = IsTrue (is_blank b)

-- The first n bytes of the line are the sides of a pattern, and what follows them may follow a pattern.
pub record HasFrontSides (names : List Definition) (line : List ℕ) (s : Sides) (n : ℕ) : Type 0 where
  pub within : n ≤ length line
  pub sides : SpellsSides names (take n line) s
  pub follows : IsBehind (drop n line)

-- The first n bytes of the line are the pattern, and what follows them may follow a pattern.
pub record IsFrontPattern (names : List Definition) (line : List ℕ) (p : Pattern) (n : ℕ) : Type 0 where
  pub within : n ≤ length line
  pub is_pattern : IsPattern names (take n line) p
  pub follows : IsBehind (drop n line)

-- the weight of a pattern's sides
abbrev pub sides_weight : List Definition → Sides → ℕ
sides_weight names s = weight_of_both (defined names) s.head s.tail

-- the weight of a pattern
abbrev pub pattern_weight : List Definition → Pattern → ℕ
pattern_weight names p = sides_weight names (sides_of p)

-- neither the head nor the tail has one length
abbrev pub BothVary : List Expression → Sides → Type 0
BothVary names s = (t : Expression) × (s.tail ≡ Some t) × Varies names s.head × Varies names t

-- a tail follows a head that matches the empty string
abbrev pub HasEmptyHead : List Expression → Sides → Type 0
HasEmptyHead names s = IsSome s.tail × Matches names s.head []

-- Why a pattern is rejected. Have gives the sides that the text spells, and Is the patterns that it is. The text is no
-- pattern, or what it spells weighs more than most. For an error of the cut or an empty head, the text spells sides
-- with that error.
pub record IsRefused (most : ℕ) (names : List Definition) (Have : Sides → Type 0) (Is : Pattern → Type 0)
    (fault : EreFault) : Type 0 where
  pub refused : fault ≢ OutOfMemory → ere_kind fault ≢ Some TooHeavy → (p : Pattern) → Is p → ⊥
  pub vary : ere_kind fault ≡ Some TrailingBothVary → (s : Sides) × Have s × BothVary (defined names) s
  pub empty_head : ere_kind fault ≡ Some TrailingHeadEmpty → (s : Sides) × Have s × HasEmptyHead (defined names) s
  pub heavy : ere_kind fault ≡ Some TooHeavy → (s : Sides) × Have s × (most < sides_weight names s)
  pub none_light : ere_kind fault ≡ Some TooHeavy → (p : Pattern) → Is p → pattern_weight names p ≤ most → ⊥
