-- The words of an action.
use Rattle.std.specs.Prelude.{◌≡◌, ◌≢◌, ◌⊎◌, ℕ, List, [], ◌∷◌, ◌++◌, Bool, IsTrue, codes, nat_eq}
use Rattle.std.specs.List.{list_any}
use Rattle.ly_base.specs.Gap.{Gap}
use Rattle.ly_base.specs.Language.{NameBefore}
use Rattle.ly_base.specs.Literals.{Literal}
use Rattle.ly_base.specs.Words.{WordBefore}
use Rattle.ly_base.specs.declared.language.Language.{Language}
use Rattle.ly_base.specs.declared.language.Language.TheVariants.{Lex}

-- A word of an action: a mark of one byte, the first byte of the text, a name, or a literal of a byte.
pub data Word : Type 0 where
  mark : ℕ → Word
  text_byte : Word
  name : List ℕ → Word
  literal : ℕ → Word

-- the marks: those of statements, and the condition `0`
abbrev pub is_mark : ℕ → Bool
is_mark b = list_any (nat_eq b) (codes ";|(){}0")

abbrev pub semicolon : Word
semicolon = mark 59

abbrev pub bar : Word
bar = mark 124

abbrev pub open_parenthesis : Word
open_parenthesis = mark 40

abbrev pub close_parenthesis : Word
close_parenthesis = mark 41

abbrev pub open_brace : Word
open_brace = mark 123

abbrev pub close_brace : Word
close_brace = mark 125

abbrev pub zero_digit : Word
zero_digit = mark 48

-- the text is `yytext[0]` or `*yytext`, then the rest
abbrev pub TextByteBefore : List ℕ → List ℕ → Type 0
TextByteBefore text rest = NameBefore Lex text (codes "yytext") (codes "[0]" ++ rest)
    ⊎ ((behind : List ℕ) × (text ≡ codes "*" ++ behind) × NameBefore Lex behind (codes "yytext") rest)

-- the name and what follows it are no `yytext[0]`
abbrev pub IsNoTextByte : List ℕ → List ℕ → Type 0
IsNoTextByte n rest = n ≡ codes "yytext" → (s : List ℕ) → rest ≢ codes "[0]" ++ s

-- The text is a word and then the rest. A name takes all bytes that can belong to it.
abbrev pub Begins : List ℕ → Word → List ℕ → Type 0
Begins text (mark b) rest = IsTrue (is_mark b) × (text ≡ b ∷ rest)
Begins text text_byte rest = TextByteBefore text rest
Begins text (name n) rest = NameBefore Lex text n rest × IsNoTextByte n rest
Begins text (literal b) rest = Literal text b rest

-- the text is whitespace and comments, a word and the rest
abbrev pub HasInFront : Language → List ℕ → Word → List ℕ → Type 0
HasInFront l text x rest = WordBefore Begins l text x rest

-- the text is these words, with whitespace and comments before, between and after them
abbrev pub Wording : Language → List ℕ → List Word → Type 0
Wording l text [] = Gap l text
Wording l text (x ∷ xs) = (rest : List ℕ) × HasInFront l text x rest × Wording l rest xs
