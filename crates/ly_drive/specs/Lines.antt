-- The lines of a text, and what is written if each is parsed as a text of its own.
use Rattle.std.specs.Prelude.{◌≡◌, ◌≢◌, ◌<◌, ℕ, List, [], ◌∷◌, ◌++◌, length, take, nat_eq, if◌then◌else◌}
use Rattle.std.specs.Prelude.{IfSome, Option}
use Rattle.std.specs.Io.KnownBytes.{Appends, Consumes}
use Rattle.ly_base.specs.Bytes.{newline}
use Rattle.ly_drive.specs.declared.lines_outcome.LinesOutcome.{LinesOutcome}
use Rattle.ly_drive.specs.declared.lines_outcome.LinesOutcome.TheVariants.{AllTrees, SomeRefused}
use Rattle.ly_feed.specs.TableAnswer.{IsVerdict, TableAnswer}
use Rattle.ly_feed.specs.Verdict.{faulty}
use Rattle.ly_feed.specs.declared.outcome.Outcome.{Outcome}
use Rattle.ly_feed.specs.declared.outcome.Outcome.TheVariants.{NoRule, Syntax, Tree}
use Rattle.ly_feed.specs.declared.text_fault.TextFault.{TextFault}
use Rattle.ly_feed.specs.declared.text_fault.TextFault.TheVariants.{FaultyTables, Write}
use Rattle.ly_print.specs.declared.answer_form.AnswerForm.{AnswerForm}
use Rattle.ly_tables.specs.TableSet.{TableSet}

-- a byte before the first line; it is the only line if there are none
abbrev pub in_first : ℕ → List (List ℕ) → List (List ℕ)
in_first b [] = (b ∷ []) ∷ []
in_first b (line ∷ lines) = (b ∷ line) ∷ lines

-- The lines of a text. A newline ends a line and isn't part of it. The bytes after the last one are a line unless they
-- are empty.
abbrev pub lines_of : List ℕ → List (List ℕ)
lines_of [] = []
lines_of (b ∷ text) = if nat_eq b newline then [] ∷ lines_of text else in_first b (lines_of text)

-- the outcome of lines and one more: they all have trees if the one has, and they do
abbrev pub outcome_with : Outcome → LinesOutcome → LinesOutcome
outcome_with Tree all = all
outcome_with (Syntax token byte length expected) all = SomeRefused
outcome_with (NoRule byte) all = SomeRefused

-- Each line is parsed as a text of its own, the results follow one another, and this is the outcome.
abbrev pub AreAnswered : AnswerForm → TableSet → List (List ℕ) → List ℕ → LinesOutcome → Type 0
AreAnswered form s [] answer all = (answer ≡ []) × (all ≡ AllTrees)
AreAnswered form s (line ∷ lines) answer all = (outcome : Outcome) × (first : List ℕ) × (others : List ℕ)
    × (of_others : LinesOutcome) × TableAnswer form s line outcome first × AreAnswered form s lines others of_others
    × (answer ≡ first ++ others) × (all ≡ outcome_with outcome of_others)

-- The lines of the text from the reader, if its bytes are known, have this outcome, and their results were written.
abbrev pub AreLinesAnswered :
    AnswerForm → TableSet → Option (List ℕ) → Option (List ℕ) → Option (List ℕ) → LinesOutcome → Type 0
AreLinesAnswered form s given before after all = (text : List ℕ) × (answer : List ℕ)
    × IfSome given (λ bytes. text ≡ bytes) × AreAnswered form s (lines_of text) answer all × Appends before after answer

-- the bytes contain no newline
abbrev pub IsUnbroken : List ℕ → Type 0
IsUnbroken [] = Unit {0}
IsUnbroken (b ∷ bytes) = (b ≢ newline) × IsUnbroken bytes

-- nor does any of the lines
abbrev pub AreUnbroken : List (List ℕ) → Type 0
AreUnbroken [] = Unit {0}
AreUnbroken (line ∷ lines) = IsUnbroken line × AreUnbroken lines

-- lines as in a text, each with a newline after it
abbrev pub ended : List (List ℕ) → List ℕ
ended [] = []
ended (line ∷ lines) = line ++ newline ∷ ended lines

-- The bytes are complete lines and this part of an incomplete one. Exactly the complete lines have been parsed, and
-- their results were written.
pub record IsAnsweredSoFar (form : AnswerForm) (s : TableSet) (bytes : List ℕ) (before now : Option (List ℕ))
    (part : List ℕ) (all : LinesOutcome) : Type 0 where
  pub lines : List (List ℕ)
  pub answer : List ℕ
  pub split : bytes ≡ ended lines ++ part
  pub whole : AreUnbroken lines
  pub unbroken : IsUnbroken part
  pub answered : AreAnswered form s lines answer all
  pub written : Appends before now answer

-- Each complete line of the bytes read has been parsed. So if the next read fails, no line was left to parse.
abbrev pub AreAnsweredBehind :
    AnswerForm → TableSet → Option (List ℕ) → Option (List ℕ) → Option (List ℕ) → Option (List ℕ) → Type 0
AreAnsweredBehind form s given left before now = (bytes : List ℕ) × (part : List ℕ) × (all : LinesOutcome)
    × Consumes given left bytes × IsAnsweredSoFar form s bytes before now part all

-- the first of the lines have these results, and these are the others
pub record AreFirstAnswered (form : AnswerForm) (s : TableSet) (lines others : List (List ℕ)) (answer : List ℕ) :
    Type 0 where
  pub first : List (List ℕ)
  pub all : LinesOutcome
  pub split : lines ≡ first ++ others
  pub answered : AreAnswered form s first answer all

-- What was written of lines before an error: the results of the first ones. After a failed write, also this many bytes
-- of the next one's, but not all; and if the tables are faulty, they are so for the next line.
abbrev pub IsStopped :
    AnswerForm → TableSet → List (List ℕ) → Option (List ℕ) → Option (List ℕ) → TextFault → Type 0
IsStopped form s lines before after (Write written) = (line : List ℕ) × (others : List (List ℕ)) × (answer : List ℕ)
    × (outcome : Outcome) × (own : List ℕ) × AreFirstAnswered form s lines (line ∷ others) answer
    × TableAnswer form s line outcome own × (written < length own) × Appends before after (answer ++ take written own)
IsStopped form s lines before after FaultyTables = (line : List ℕ) × (others : List (List ℕ)) × (answer : List ℕ)
    × AreFirstAnswered form s lines (line ∷ others) answer × IsVerdict s line faulty × Appends before after answer
IsStopped form s lines before after _ = (others : List (List ℕ)) × (answer : List ℕ)
    × AreFirstAnswered form s lines others answer × Appends before after answer

-- the same for the lines of the text from the reader
abbrev pub AreLinesStopped :
    AnswerForm → TableSet → Option (List ℕ) → Option (List ℕ) → Option (List ℕ) → TextFault → Type 0
AreLinesStopped form s given before after fault = (text : List ℕ) × IfSome given (λ bytes. text ≡ bytes)
    × IsStopped form s (lines_of text) before after fault
