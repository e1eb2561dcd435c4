-- Lines that are answered while their text comes.
use Rattle.std.specs.Prelude.{ℕ, List, [], ◌++◌, Option, Result, Ok, Err}
use Rattle.std.specs.Io.KnownBytes.{Appends}
use Rattle.ly_drive.specs.Lines.{AreAnswered, IsAnsweredSoFar, IsStopped, lines_of}
use Rattle.ly_drive.specs.declared.lines_outcome.LinesOutcome.{LinesOutcome}
use Rattle.ly_feed.specs.TableAnswer.{IsVerdict, TableAnswer}
use Rattle.ly_feed.specs.Verdict.{faulty}
use Rattle.ly_feed.specs.declared.outcome.Outcome.{Outcome}
use Rattle.ly_feed.specs.declared.text_fault.TextFault.{TextFault}
use Rattle.ly_feed.specs.declared.text_fault.TextFault.TheVariants.{FaultyTables, OutOfMemory, Write}
use Rattle.ly_print.specs.TextWriter.{IsCutShort}
use Rattle.ly_print.specs.declared.answer_form.AnswerForm.{AnswerForm}
use Rattle.ly_tables.specs.TableSet.{TableSet}

-- a line is answered with this outcome, and its whole answer was written
abbrev pub IsLineAnswered : AnswerForm → TableSet → List ℕ → Option (List ℕ) → Option (List ℕ) → Outcome → Type 0
IsLineAnswered form s line before after outcome = (answer : List ℕ) × TableAnswer form s line outcome answer
    × Appends before after answer

-- It isn't: only a beginning of its answer was written, or the tables are at fault on it, or memory ran out.
abbrev pub IsLineStopped : AnswerForm → TableSet → List ℕ → Option (List ℕ) → Option (List ℕ) → TextFault → Type 0
IsLineStopped form s line before after (Write written) = (outcome : Outcome) × (answer : List ℕ)
    × TableAnswer form s line outcome answer × IsCutShort before after written answer
IsLineStopped form s line before after FaultyTables = IsVerdict s line faulty × Appends before after []
IsLineStopped form s line before after OutOfMemory = Appends before after []
IsLineStopped form s line before after _ = ⊥

-- What is known of lines behind bytes that have come: those that have ended by then are answered; or it came to a
-- fault before, whatever comes.
abbrev pub AreTaken : AnswerForm → TableSet → List ℕ → Option (List ℕ) → Option (List ℕ) → List ℕ → LinesOutcome
    → Result (Unit {0}) TextFault → Type 0
AreTaken form s bytes before now part all (Ok none) = IsAnsweredSoFar form s bytes before now part all
AreTaken form s bytes before now part all (Err fault) = (rest : List ℕ)
    → IsStopped form s (lines_of (bytes ++ rest)) before now fault

-- and where the text has ended
abbrev pub AreEnded : AnswerForm → TableSet → List ℕ → Option (List ℕ) → Option (List ℕ)
    → Result LinesOutcome TextFault → Type 0
AreEnded form s text before now (Ok all) = (answer : List ℕ) × AreAnswered form s (lines_of text) answer all
    × Appends before now answer
AreEnded form s text before now (Err fault) = IsStopped form s (lines_of text) before now fault
