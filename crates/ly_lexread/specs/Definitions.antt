-- The definitions of a lex file (POSIX, XCU lex, "Definitions in lex").
use Rattle.std.specs.Prelude.{◌≡◌, ◌≢◌, ℕ, List, [], ◌∷◌, ◌++◌, Bool, true, false, ◌||◌, codes, None, nat_eq, drop}
use Rattle.std.specs.Prelude.{if◌then◌else◌, Contains, length, map}
use Rattle.std.specs.List.{list_any}
use Rattle.std.specs.Str.{bytes_eq}
use Rattle.ly_base.specs.Blank.{is_blank}
use Rattle.ly_base.specs.Escapes.{AllPass, Stops}
use Rattle.ly_base.specs.Gap.{EndBefore}
use Rattle.ly_base.specs.Language.{DigitsBefore, NameBefore}
use Rattle.ly_base.specs.declared.language.Language.TheVariants.{Lex}
use Rattle.ly_lexread.specs.Conditions.{Condition, condition_of, initial}
use Rattle.ly_lexread.specs.Lines.{BlockEnds, LineBefore, LineOf, kind_of, left_in}
use Rattle.ly_lexread.specs.declared.directive.Directed.{Directed}
use Rattle.ly_lexread.specs.declared.directive.Directed.TheVariants.{Inclusive, Exclusive, Size, TextKind, Unknown}
use Rattle.ly_lexread.specs.declared.kind.LineKind.{LineKind}
use Rattle.ly_lexread.specs.declared.kind.LineKind.TheVariants.{Mark, Unused, Block, Comment, Directive, Plain}

-- one or more blanks, as many as there are, then the rest
abbrev pub BlanksBefore : List ℕ → List ℕ → Type 0
BlanksBefore text rest = (blanks : List ℕ) × AllPass is_blank blanks × (blanks ≢ []) × Stops is_blank rest
    × (text ≡ blanks ++ rest)

-- Blanks and names in turn, up to the end of a line. Each name declares a further condition, exclusive or not. left
-- gives the number of bytes of the file from the rest of a line on.
pub data DeclaresAll (exclusive : Bool) (left : List ℕ → ℕ) : List Condition → List ℕ → List Condition → Type 0 where
  end : (cs : List Condition) (text : List ℕ) → AllPass is_blank text → DeclaresAll exclusive left cs text cs
  more : (cs all : List Condition) (text behind n rest : List ℕ) → BlanksBefore text behind
      → NameBefore Lex behind n rest → condition_of cs n ≡ None
      → DeclaresAll exclusive left (cs ++ (n, (exclusive, left behind)) ∷ []) rest all
      → DeclaresAll exclusive left cs text all

-- the same with at least one name
abbrev pub Declares : Bool → (List ℕ → ℕ) → List Condition → List ℕ → List Condition → Type 0
Declares exclusive left cs text all = (AllPass is_blank text → ⊥) × DeclaresAll exclusive left cs text all

-- the first byte is one of these
abbrev pub begins_among : List ℕ → List ℕ → Bool
begins_among bytes [] = false
begins_among bytes (b ∷ word) = list_any (nat_eq b) bytes

-- the word is a single byte, one of these
abbrev pub is_one_of : List ℕ → List ℕ → Bool
is_one_of bytes [] = false
is_one_of bytes (b ∷ []) = list_any (nat_eq b) bytes
is_one_of bytes (b ∷ c ∷ word) = false

-- the kind of directive of the word after a `%`: a word of letters and digits for conditions, a letter for the size of
-- a table
abbrev pub directive_of : List ℕ → Directed
directive_of word = if list_any (nat_eq 95) word then Unknown else
    (if begins_among (codes "sS") word then Inclusive else
    (if begins_among (codes "xX") word then Exclusive else
    (if is_one_of (codes "pnaeko") word then Size else
    (if bytes_eq word (codes "array") || bytes_eq word (codes "pointer") then TextKind else Unknown))))

-- blanks, a decimal number, and perhaps blanks
abbrev pub IsNumber : List ℕ → Type 0
IsNumber text = (number digits rest : List ℕ) × BlanksBefore text number × DigitsBefore number digits rest
    × AllPass is_blank rest

-- what may follow the word of an ignored directive
abbrev pub IsIdle : Directed → List ℕ → Type 0
IsIdle Size text = IsNumber text
IsIdle TextKind text = AllPass is_blank text
IsIdle _ text = ⊥

-- the conditions after a directive, given what follows its word up to the end of the line
abbrev pub Directs : Directed → (List ℕ → ℕ) → List Condition → List ℕ → List Condition → Type 0
Directs Inclusive left cs text all = Declares false left cs text all
Directs Exclusive left cs text all = Declares true left cs text all
Directs d left cs text all = (all ≡ cs) × IsIdle d text

-- A line that starts with `%`, and the conditions after it.
pub record DirectiveLine (left : List ℕ → ℕ) (cs : List Condition) (line : List ℕ) (all : List Condition) : Type 0
  where
    pub behind : List ℕ
    pub is_directive : line ≡ codes "%" ++ behind
    pub word : List ℕ
    pub rest : List ℕ
    pub named : NameBefore Lex behind word rest
    pub directs : Directs (directive_of word) left cs rest all

-- The line starts with a name, then come blanks, and then this, up to its end.
abbrev pub DefinesName : List ℕ → List ℕ → List ℕ → Type 0
DefinesName line name text = (behind : List ℕ) × NameBefore Lex line name behind × BlanksBefore behind text
    × (text ≢ [])

-- the definition on a line: a name, what follows it after blanks, and the number of bytes of the file from the line on
abbrev pub DefinedLine : Type 0
DefinedLine = List ℕ × (List ℕ × ℕ)

-- the names that are defined
abbrev pub defined_names : List DefinedLine → List (List ℕ)
defined_names ds = map (λ d. d.0) ds

-- A line that defines a further name, from which so many bytes of the file are left, and the definitions including it.
pub record DefinitionLine (left : ℕ) (ds : List DefinedLine) (line : List ℕ) (all : List DefinedLine) : Type 0 where
  pub name : List ℕ
  pub text : List ℕ
  pub defines : DefinesName line name text
  pub is_new : Contains (defined_names ds) name → ⊥
  pub one_more : all ≡ ds ++ (name, (text, left)) ∷ []

-- a comment ends at its first `*/`, and the rest of that line is ignored
abbrev pub CommentEnds : List ℕ → List ℕ → Type 0
CommentEnds text rest = (inside behind line end : List ℕ) × (text ≡ codes "/*" ++ inside)
    × EndBefore (codes "*/") inside behind × LineOf behind line end × (rest ≡ drop 1 end)

-- The contents of the definitions section: the conditions, and the lines that define names.
pub record Preamble : Type 0 where
  pub conditions : List Condition
  pub definitions : List DefinedLine

-- the contents before the first line
abbrev pub at_first : Preamble
at_first = record { conditions = initial ∷ []; definitions = [] }

-- The text starts with this line. Depending on its kind, the contents before it become those after it, and the rest
-- follows.
abbrev pub LineSays : LineKind → Preamble → List ℕ → List ℕ → List ℕ → Preamble → List ℕ → Type 0
LineSays Mark p text line behind q rest = ⊥
LineSays Unused p text line behind q rest = (q ≡ p) × (rest ≡ behind)
LineSays Block p text line behind q rest = (q ≡ p) × BlockEnds behind rest
LineSays Comment p text line behind q rest = (q ≡ p) × CommentEnds text rest
LineSays Directive p text line behind q rest = (rest ≡ behind) × (q.definitions ≡ p.definitions)
    × DirectiveLine (left_in text line) p.conditions line q.conditions
LineSays Plain p text line behind q rest = (rest ≡ behind) × (q.conditions ≡ p.conditions)
    × DefinitionLine (length text) p.definitions line q.definitions

-- a line, with the lines that belong to it
abbrev pub Says : Preamble → List ℕ → Preamble → List ℕ → Type 0
Says p text q rest =
    (line behind : List ℕ) × LineBefore text line behind × LineSays (kind_of line) p text line behind q rest

-- The definitions, up to the `%%` that begins the rules: from the contents before them to those after them, then the
-- rest.
pub data Definitions : Preamble → List ℕ → Preamble → List ℕ → Type 0 where
  mark : (p : Preamble) (text line rest : List ℕ) → LineBefore text line rest → kind_of line ≡ Mark
      → Definitions p text p rest
  more : (p q r : Preamble) (text behind rest : List ℕ) → Says p text q behind → Definitions q behind r rest
      → Definitions p text r rest
