-- What is written and read if each line of a text is parsed as a text of its own, with a table file.
use Rattle.std.specs.Prelude.{◌≡◌, ◌≢◌, ◌⊎◌, ℕ, List, OnOk, Option, Result}
use Rattle.std.specs.Io.KnownBytes.{IsAtEnd}
use Rattle.ly_drive.specs.Answering.{IsDriven, IsTooLong}
use Rattle.ly_drive.specs.Lines.{AreAnsweredBehind, AreLinesAnswered, AreLinesStopped}
use Rattle.ly_drive.specs.declared.lines_outcome.LinesOutcome.{LinesOutcome}
use Rattle.ly_feed.specs.declared.text_fault.TextFault.{TextFault}
use Rattle.ly_feed.specs.declared.text_fault.TextFault.TheVariants as text
use Rattle.ly_print.specs.declared.answer_form.AnswerForm.{AnswerForm}
use Rattle.ly_tables.specs.Refusal.{IsRefusedAs}
use Rattle.ly_tables.specs.TableSet.{TableSet}
use Rattle.ly_tables.specs.declared.fault.TableFault.TheVariants as file
use Rattle.lytab.specs.Completion.{completion_of_lines}
use Rattle.lytab.specs.Reading.{HasReadFailed}
use Rattle.lytab.specs.declared.answering.Rules.{Rules}
use Rattle.lytab.specs.declared.answering.Rules.TheVariants as rules
use Rattle.lytab.specs.declared.completion.Completion.{Completion}
use Rattle.lytab.specs.declared.failure.Failure.{Failure}
use Rattle.lytab.specs.declared.failure.Failure.TheVariants.{CannotRead, CannotWrite, FaultyTables, OutOfMemory, Tables}
use Rattle.lytab.specs.declared.failure.Failure.TheVariants.{TooLong}

-- The set of a table file parses each line of the text as a text of its own, and the results were written in a form.
abbrev pub AreLinesAnsweredBy :
    AnswerForm → List ℕ → Option (List ℕ) → Option (List ℕ) → Option (List ℕ) → Completion → Type 0
AreLinesAnsweredBy form tables given before after c = (o : LinesOutcome) × (s : TableSet) × IsDriven tables s
    × AreLinesAnswered form s given before after o × (c ≡ completion_of_lines o)

-- The set of a table file parses the first lines, their results were written, and then this error occurs.
abbrev pub IsFaultMet :
    AnswerForm → List ℕ → Option (List ℕ) → Option (List ℕ) → Option (List ℕ) → TextFault → Type 0
IsFaultMet form tables given before after fault = (s : TableSet) × IsDriven tables s
    × AreLinesStopped form s given before after fault

-- What holds after this failure. The table file is rejected and nothing was written; or standard output has what was
-- written before an error. A file that can't be opened, and out of memory, may occur before anything is written. If
-- there was no memory for the table set, the statement is for any set that the table file has.
abbrev pub AreLinesFailed :
    AnswerForm → List ℕ → Option (List ℕ) → Option (List ℕ) → Option (List ℕ) → Failure → Type 0
AreLinesFailed form tables given before after (Tables fault) =
    (fault ≢ file.OutOfMemory) × IsRefusedAs tables fault × (after ≡ before)
AreLinesFailed form tables given before after FaultyTables = IsFaultMet form tables given before after text.FaultyTables
AreLinesFailed form tables given before after TooLong =
    IsTooLong given × IsFaultMet form tables given before after text.TooLong
AreLinesFailed form tables given before after (CannotRead path) =
    (after ≡ before) ⊎ IsFaultMet form tables given before after text.Read
AreLinesFailed form tables given before after (CannotWrite path) =
    (after ≡ before) ⊎ ((written : ℕ) × IsFaultMet form tables given before after (text.Write written))
AreLinesFailed form tables given before after OutOfMemory = (after ≡ before)
    ⊎ ((s : TableSet) → IsDriven tables s → AreLinesStopped form s given before after text.OutOfMemory)
AreLinesFailed form tables given before after _ = ⊥

-- What was read: all of the text, if each line is parsed. If a read failed, all complete lines had been parsed before,
-- so that the read was needed.
pub record AreLinesRead (form : AnswerForm) (tables : List ℕ) (result : Result Completion Failure)
    (given left before after : Option (List ℕ)) : Type 0 where
  pub ended : OnOk result (IsAtEnd left)
  pub asked : HasReadFailed result → (s : TableSet) → IsDriven tables s
      → AreAnsweredBehind form s given left before after

-- how these rules failed, if they parse lines
abbrev pub AreLinesStoppedBy :
    Rules → Option (List ℕ) → Option (List ℕ) → Option (List ℕ) → Failure → Type 0
AreLinesStoppedBy (rules.Lines tables form) given before after f = AreLinesFailed form tables.now given before after f
AreLinesStoppedBy _ given before after f = Unit {0}

-- what these rules read, if they parse lines
abbrev pub AreLinesReadBy :
    Rules → Result Completion Failure → Option (List ℕ) → Option (List ℕ) → Option (List ℕ) → Option (List ℕ) → Type 0
AreLinesReadBy (rules.Lines tables form) result given left before after =
    AreLinesRead form tables.now result given left before after
AreLinesReadBy _ result given left before after = Unit {0}
