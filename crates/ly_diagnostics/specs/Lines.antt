-- Lines of a lex file by their numbers. The file needn't be valid.
use Rattle.std.specs.Prelude.{◌≡◌, ◌≤◌, ◌+◌, ◌⊎◌, ℕ, List, [], true}
use Rattle.ly_lexread.specs.Lines.{LineBefore, kind_of}
use Rattle.ly_lexread.specs.declared.kind.LineKind.TheVariants as lexed
use Rattle.ly_diagnostics.specs.declared.lex_units.Kind.{Kind}
use Rattle.ly_diagnostics.specs.declared.lex_units.Kind.TheVariants.{Mark, Unused}
use Rattle.ly_diagnostics.specs.declared.lex_units.Units.{Units}

-- this many lines, followed by the rest
pub data LinesBefore : ℕ → List ℕ → List ℕ → Type 0 where
  none : (text : List ℕ) → LinesBefore 0 text text
  more : (n : ℕ) (text line behind rest : List ℕ) → LineBefore text line behind → LinesBefore n behind rest
      → LinesBefore (n + 1) text rest

-- Line n of the text is this one. The first line is 1.
pub record IsLine (text : List ℕ) (n : ℕ) (line : List ℕ) : Type 0 where
  pub before : ℕ
  pub count : n ≡ before + 1
  pub from : List ℕ
  pub passed : LinesBefore before text from
  pub rest : List ℕ
  pub is : LineBefore from line rest

-- One of the first n lines of the text begins with `%%`.
pub record HasMark (text : List ℕ) (n : ℕ) : Type 0 where
  pub number : ℕ
  pub line : List ℕ
  pub is : IsLine text number line
  pub begins_rules : kind_of line ≡ lexed.Mark
  pub within : number ≤ n

-- lines of these kinds have their first bytes
pub record IsKindOf (line : List ℕ) (kind : Kind) : Type 0 where
  pub mark : kind ≡ Mark → kind_of line ≡ lexed.Mark
  pub unused : kind ≡ Unused → kind_of line ≡ lexed.Unused

-- This many lines of the text were passed, or all of it. If the rules were reached, a passed line begins with `%%`.
pub record ArePassed (text : List ℕ) (units : Units) : Type 0 where
  pub lines : (units.rest.now ≡ []) ⊎ LinesBefore units.passed text units.rest.now
  pub mark : units.in_rules ≡ true → HasMark text units.passed
