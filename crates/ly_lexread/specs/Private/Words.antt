-- What stands at the front of an action, as it is read.
use Rattle.std.specs.Prelude.{◌≡◌, ℕ, List, [], ◌++◌, codes}
use Rattle.std.specs.Borrow.{Bor}
use Rattle.ly_base.specs.Gap.{Gap}
use Rattle.ly_base.specs.declared.language.Language.{Language}
use Rattle.ly_lexread.specs.Words.{Word, mark, text_byte, name, literal, HasInFront, IsNoTextByte}
use Rattle.ly_lexread.specs.declared.words.NextWord.{NextWord}
use Rattle.ly_lexread.specs.declared.words.NextWord.TheVariants.{End, Mark, TextByte, Name, Literal, Other}

-- the word, which borrows nothing; where there is none, one that no text has
abbrev pub word_of : NextWord → Word
word_of (Mark b) = mark b
word_of TextByte = text_byte
word_of (Name n) = name n.now
word_of (Literal b) = literal b
word_of _ = mark 0

-- there is a word
abbrev pub IsFound : NextWord → Type 0
IsFound End = ⊥
IsFound Other = ⊥
IsFound _ = Unit {0}

-- what stands at the front of a text, and the rest behind it
abbrev pub IsFront : Language → List ℕ → NextWord → List ℕ → Type 0
IsFront l text End rest = Gap l text × (rest ≡ [])
IsFront l text Other rest = (Gap l text → ⊥) × ((x : Word) (s : List ℕ) → HasInFront l text x s → ⊥)
IsFront l text w rest = HasInFront l text (word_of w) rest

-- the word that a name and what is behind it begin with
abbrev pub IsNamedWord : Bor (List ℕ) → List ℕ → NextWord → List ℕ → Type 0
IsNamedWord n behind TextByte rest = (n.now ≡ codes "yytext") × (behind ≡ codes "[0]" ++ rest)
IsNamedWord n behind (Name m) rest = (m ≡ n) × (rest ≡ behind) × IsNoTextByte n.now behind
IsNamedWord n behind _ rest = ⊥
