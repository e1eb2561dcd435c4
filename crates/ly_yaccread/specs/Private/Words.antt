-- What stands at the front of a yacc file, as it is read.
use Rattle.std.specs.Prelude.{◌≡◌, ◌≢◌, ℕ, List, [], map}
use Rattle.ly_base.specs.Gap.{Gap}
use Rattle.ly_base.specs.declared.language.Language.TheVariants.{Yacc}
use Rattle.ly_yaccread.specs.Words.{Word, mark, directive, name, number, literal, block, braces, other, Begins}
use Rattle.ly_yaccread.specs.Words.{HasInFront}
use Rattle.ly_yaccread.specs.Words.{Takes}
use Rattle.ly_yaccread.specs.declared.part.Part.{Part}
use Rattle.ly_yaccread.specs.declared.words.FileWord.{FileWord}
use Rattle.ly_yaccread.specs.declared.words.NextWord.{NextWord}
use Rattle.ly_yaccread.specs.declared.words.NextWord.TheVariants.{End, Mark, Directive, Name, Number, Literal, Other}
use Rattle.ly_yaccread.specs.declared.words.NextWord.TheVariants.{Block, Braces}

-- the word, which borrows nothing
abbrev pub word_of : NextWord → Word
word_of (Mark m) = mark m
word_of (Directive n) = directive n.now
word_of (Name n) = name n.now
word_of (Number ds) = number ds.now
word_of (Literal b) = literal b
word_of Block = block
word_of Braces = braces
word_of _ = other

-- what stands at the front of a text that begins with no gap
abbrev pub IsWordAt : List ℕ → NextWord → List ℕ → Type 0
IsWordAt text End rest = text ≡ []
IsWordAt text Other rest = (text ≢ []) × ((x : Word) (s : List ℕ) → Begins text x s → ⊥)
IsWordAt text w rest = Begins text (word_of w) rest

-- what stands at the front of a text
abbrev pub IsFront : List ℕ → NextWord → List ℕ → Type 0
IsFront text End rest = Gap Yacc text
IsFront text Other rest = (Gap Yacc text → ⊥) × ((x : Word) (s : List ℕ) → HasInFront text x s → ⊥)
IsFront text w rest = HasInFront text (word_of w) rest

-- what stands at the front of a text in this part of a file
abbrev pub IsPartWord : Part → List ℕ → NextWord → List ℕ → Type 0
IsPartWord p text End rest = Gap Yacc text
IsPartWord p text Other rest = (Gap Yacc text → ⊥) × ((x : Word) (s : List ℕ) → Takes p text x s → ⊥)
IsPartWord p text w rest = Takes p text (word_of w) rest

-- the words, which borrow nothing
abbrev pub words_of : List FileWord → List Word
words_of ws = map (λ w. word_of w.word) ws

-- where they begin
abbrev pub offsets_of : List FileWord → List ℕ
offsets_of ws = map (λ w. w.offset) ws
