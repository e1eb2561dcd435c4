-- The names that a lex file defines (POSIX, XCU lex, "Definitions in lex").
use Rattle.std.specs.Prelude.{◌≡◌, ℕ, List, [], ◌∷◌, ◌++◌}
use Rattle.ly_base.specs.Blank.{is_blank}
use Rattle.ly_base.specs.Escapes.{AllPass}
use Rattle.ly_ere.specs.Definitions.{AreNames, DefinedText, IsHeavyDefinition}
use Rattle.ly_ere.specs.Elements.{AreElements, Element}
use Rattle.ly_ere.specs.Names.{Definition}
use Rattle.ly_lexread.specs.Definitions.{DefinedLine}

-- What follows a name and blanks is the text of an expression, then nothing but blanks.
pub record IsTextOf (behind text : List ℕ) : Type 0 where
  pub elements : List Element
  pub spelled : AreElements text elements
  pub blanks : List ℕ
  pub are_blanks : AllPass is_blank blanks
  pub parted : behind ≡ text ++ blanks

-- the names with the texts of their expressions
abbrev pub AreTextsOf : List DefinedLine → List DefinedText → Type 0
AreTextsOf [] [] = Unit {0}
AreTextsOf (d ∷ ds) (t ∷ ts) = (t.name ≡ d.0) × IsTextOf d.1.0 t.text × AreTextsOf ds ts
AreTextsOf _ _ = ⊥

-- the lines define these names
abbrev pub AreDefinitions : List DefinedLine → List Definition → Type 0
AreDefinitions ds names = (texts : List DefinedText) × AreTextsOf ds texts × AreNames texts names

-- one of the definitions weighs more than this when it is appended
abbrev pub HasHeavyDefinition : ℕ → List DefinedLine → Type 0
HasHeavyDefinition most ds = (texts : List DefinedText) × (n : ℕ) × AreTextsOf ds texts × IsHeavyDefinition most texts n
