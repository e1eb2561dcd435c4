-- The names that are defined, as they are read.
use Rattle.std.specs.Prelude.{◌≡◌, ◌∷◌, ◌++◌, ℕ, List, [], Option, Some, None, Contains, MatchOption, map}
use Rattle.ly_base.specs.Blank.{is_blank}
use Rattle.ly_base.specs.Escapes.{AllPass}
use Rattle.ly_ere.specs.Definitions.{DefinedText, named_texts}
use Rattle.ly_lexread.specs.Definitions.{DefinedLine, defined_names}
use Rattle.ly_lexread.specs.Names.{AreTextsOf, IsTextOf}
use Rattle.ly_ere.specs.declared.fault.EreFaultKind.{EreFaultKind}
use Rattle.ly_lexread.specs.declared.defined.NameLine.{NameLine}
use Rattle.ly_lexread.specs.declared.fault.LexFault.{LexFault}
use Rattle.ly_lexread.specs.declared.fault.LexFault.TheVariants.{Refused}
use Rattle.ly_lexread.specs.declared.fault.LexFaultKind.TheVariants.{Pattern}
use Rattle.ly_lexread.specs.declared.names.NameTexts.{NameTexts}

-- what the line defines
abbrev pub parts_of : NameLine → DefinedLine
parts_of l = (l.defined.name.now, (l.defined.text.now, l.left))

-- each name once
abbrev pub AreApart : List (List ℕ) → Type 0
AreApart [] = Unit {0}
AreApart (n ∷ ns) = (Contains ns n → ⊥) × AreApart ns

-- nothing but blanks stands behind this text, and no other is the text of an expression
abbrev pub IsExtentOf : List ℕ → List ℕ → Type 0
IsExtentOf behind text = (blanks : List ℕ) × AllPass is_blank blanks × (behind ≡ text ++ blanks)
    × ((t : List ℕ) → IsTextOf behind t → t ≡ text)

-- the same of each
abbrev pub AreExtents : List DefinedLine → List DefinedText → Type 0
AreExtents [] [] = Unit {0}
AreExtents (d ∷ ds) (t ∷ ts) = (t.name ≡ d.0) × IsExtentOf d.1.0 t.text × AreExtents ds ts
AreExtents _ _ = ⊥

-- Texts behind these names. Where there is a flaw, not all of them are texts of expressions.
pub record AreCut (ds : List DefinedLine) (t : NameTexts) : Type 0 where
  pub names : map (λ d. d.name) (named_texts t.list.items) ≡ defined_names ds
  pub texts : MatchOption t.flaw (AreExtents ds (named_texts t.list.items))
      (λ _. (texts : List DefinedText) → AreTextsOf ds texts → ⊥)

-- the fault of a pattern that is refused for something of this kind
abbrev pub IsPatternFault : Option EreFaultKind → LexFault → Type 0
IsPatternFault None fault = ⊥
IsPatternFault (Some kind) fault = (offset : ℕ) × (fault ≡ Refused (Pattern kind) offset)
