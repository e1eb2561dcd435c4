-- The words of a yacc file (POSIX, XCU yacc).
use Rattle.std.specs.Prelude.{◌≡◌, ◌≢◌, ◌+◌, ℕ, List, [], ◌∷◌, ◌++◌, length, nat_eq, codes}
use Rattle.ly_base.specs.Escapes.{Stops}
use Rattle.ly_base.specs.Gap.{Closes, EndBefore, Gap, GapBefore, GapEnds}
use Rattle.ly_base.specs.Language.{DigitsBefore, NameBefore}
use Rattle.ly_base.specs.Literals.{Literal}
use Rattle.ly_base.specs.Words.{WordBefore}
use Rattle.ly_base.specs.declared.language.Language.TheVariants.{Yacc}
use Rattle.ly_yaccread.specs.declared.part.Part.{Part}
use Rattle.ly_yaccread.specs.declared.part.Part.TheVariants.{Declarations, Rules, Programs}
use Rattle.ly_yaccread.specs.declared.words.Mark.{Mark}
use Rattle.ly_yaccread.specs.declared.words.Mark.TheVariants.{Section, Block, Whole, Dollar, Colon, Bar, Semicolon}
use Rattle.ly_yaccread.specs.declared.words.Mark.TheVariants.{OpenBrace, CloseBrace, OpenParenthesis}
use Rattle.ly_yaccread.specs.declared.words.Mark.TheVariants.{CloseParenthesis, OpenTag, CloseTag, Equals, Comma}

-- A word of a yacc file: a mark, a directive, a name, the digits of a number, a literal of a byte, a block `%{ .. %}`,
-- braces and the text between them, or anything else, after which no word is read.
pub data Word : Type 0 where
  mark : Mark → Word
  directive : List ℕ → Word
  name : List ℕ → Word
  number : List ℕ → Word
  literal : ℕ → Word
  block : Word
  braces : Word
  other : Word

-- the bytes of a mark
abbrev pub spelling : Mark → List ℕ
spelling Section = codes "%%"
spelling Block = codes "%{"
spelling Whole = codes "$$"
spelling Dollar = codes "$"
spelling Colon = codes ":"
spelling Bar = codes "|"
spelling Semicolon = codes ";"
spelling OpenBrace = codes "{"
spelling CloseBrace = codes "}"
spelling OpenParenthesis = codes "("
spelling CloseParenthesis = codes ")"
spelling OpenTag = codes "<"
spelling CloseTag = codes ">"
spelling Equals = codes "="
spelling Comma = codes ","

-- what may follow a mark: no second `$` follows a `$`
abbrev pub MayFollow : Mark → List ℕ → Type 0
MayFollow Dollar rest = Stops (nat_eq 36) rest
MayFollow m rest = Unit {0}

-- the text is a mark and then the rest
abbrev pub MarkBefore : List ℕ → Mark → List ℕ → Type 0
MarkBefore text m rest = (text ≡ spelling m ++ rest) × MayFollow m rest

-- the text is a `%`, a name and then the rest
abbrev pub DirectiveBefore : List ℕ → List ℕ → List ℕ → Type 0
DirectiveBefore text n rest = (behind : List ℕ) × (text ≡ codes "%" ++ behind) × NameBefore Yacc behind n rest

-- the text is a mark, a directive, a name, a number or a literal, and then the rest
abbrev pub Begins : List ℕ → Word → List ℕ → Type 0
Begins text (mark m) rest = MarkBefore text m rest
Begins text (directive n) rest = DirectiveBefore text n rest
Begins text (name n) rest = NameBefore Yacc text n rest
Begins text (number ds) rest = DigitsBefore text ds rest
Begins text (literal b) rest = Literal text b rest
Begins text _ rest = ⊥

-- the text is whitespace and comments, a word and the rest
abbrev pub HasInFront : List ℕ → Word → List ℕ → Type 0
HasInFront text x rest = WordBefore Begins Yacc text x rest

-- A mark that is a word of its own: in the declarations `%{` begins a block, and `{` begins text in braces.
abbrev pub IsPlain : Part → Mark → Type 0
IsPlain Declarations m = (m ≢ Block) × (m ≢ OpenBrace)
IsPlain p m = Unit {0}

-- The text is whitespace and comments, a word of this part of a file, and the rest. A block ends at its first `%}`;
-- braces are counted as plain bytes.
abbrev pub Takes : Part → List ℕ → Word → List ℕ → Type 0
Takes p text (mark m) rest = HasInFront text (mark m) rest × IsPlain p m
Takes p text block rest = (p ≡ Declarations) × (inside : List ℕ) × HasInFront text (mark Block) inside
    × EndBefore (codes "%}") inside rest
Takes p text braces rest = (p ≡ Declarations) × (inside : List ℕ) × HasInFront text (mark OpenBrace) inside
    × Closes 0 inside rest
Takes p text x rest = HasInFront text x rest

-- the part of a file after a word: each `%%` ends a part
abbrev pub part_behind : Part → Word → Part
part_behind Declarations (mark Section) = Rules
part_behind Rules (mark Section) = Programs
part_behind p x = p

-- the text after leading whitespace and comments
abbrev pub GapPassed : List ℕ → List ℕ → Type 0
GapPassed text rest = GapBefore Yacc text rest × GapEnds Yacc rest

-- The text is the end of a file of this many bytes, and its first byte after whitespace and comments has this offset.
abbrev pub BeginsAt : ℕ → List ℕ → ℕ → Type 0
BeginsAt bytes text offset = (rest : List ℕ) × GapPassed text rest × (offset + length rest ≡ bytes)

-- The words of a text, which is in this part of a file of this many bytes and goes to its end, and the offset of each.
-- In the programs any bytes are allowed. If no word can be read, the list ends with a word that is anything else.
pub data Wording (bytes : ℕ) : Part → List ℕ → List Word → List ℕ → Type 0 where
  free : (text : List ℕ) → Wording bytes Programs text [] []
  end : (p : Part) (text : List ℕ) → Gap Yacc text → Wording bytes p text [] []
  stuck : (p : Part) (text : List ℕ) (offset : ℕ) → p ≢ Programs → (Gap Yacc text → ⊥)
      → ((x : Word) (s : List ℕ) → Takes p text x s → ⊥) → BeginsAt bytes text offset
      → Wording bytes p text (other ∷ []) (offset ∷ [])
  more : (p : Part) (text rest : List ℕ) (x : Word) (offset : ℕ) (xs : List Word) (offsets : List ℕ) → p ≢ Programs
      → Takes p text x rest → BeginsAt bytes text offset → Wording bytes (part_behind p x) rest xs offsets
      → Wording bytes p text (x ∷ xs) (offset ∷ offsets)

-- the words of a whole file, and the offset of each
abbrev pub AreWordsOf : List ℕ → List Word → List ℕ → Type 0
AreWordsOf bytes ws offsets = Wording (length bytes) Declarations bytes ws offsets
