-- The results of `lytab_answer` and `lytab_json`, by status.
use Rattle.std.specs.Prelude.{◌≡◌, ◌≢◌, ◌<◌, ℕ, List, length}
use Rattle.ly_drive.specs.Answering.{IsDriven}
use Rattle.ly_drive.specs.declared.fault.DriveFault.{DriveFault}
use Rattle.ly_feed.specs.TableAnswer.{TableAnswer}
use Rattle.ly_feed.specs.declared.outcome.Outcome.{Outcome}
use Rattle.ly_feed.specs.declared.outcome.Outcome.TheVariants.{Tree}
use Rattle.ly_print.specs.declared.answer_form.AnswerForm.{AnswerForm}
use Rattle.ly_tables.specs.TableSet.{TableSet}
use Rattle.lytab_c.specs.Block.{IsPut}
use Rattle.lytab_c.specs.Faults.{IsFaultOn}
use Rattle.lytab_c.specs.Reports.{needing, nothing_told, outcome_report, TellsFault}
use Rattle.lytab_c.specs.declared.report.Report.{Report}
use Rattle.lytab_c.specs.declared.status.Status.{Status}
use Rattle.lytab_c.specs.declared.status.Status.TheVariants.{Done, Fault, Memory, Misused, Refused, Short}

-- A set with these table file bytes gives for the text this outcome and, in a form, this output.
abbrev pub IsOutput : AnswerForm → List ℕ → List ℕ → Outcome → List ℕ → Type 0
IsOutput form tables text outcome answer = (s : TableSet) × IsDriven tables s × TableAnswer form s text outcome answer

-- The text has a tree, and the output is in the block. Or the text has a syntax error, and the output is in the block.
-- Or the table file is rejected, or the tables fail on the text. Or memory ran out. Or the block is too short for the
-- output. Without an output in the block, the block is unchanged.
abbrev pub IsOutputOrReport : AnswerForm → List ℕ → List ℕ → List ℕ → List ℕ → Report → Status → Type 0
IsOutputOrReport form tables text old new report Done = (answer : List ℕ) × IsOutput form tables text Tree answer
    × IsPut answer old new × (report ≡ needing (length answer))
IsOutputOrReport form tables text old new report Refused = (outcome : Outcome) × (answer : List ℕ) × (outcome ≢ Tree)
    × IsOutput form tables text outcome answer × IsPut answer old new
    × (report ≡ outcome_report outcome (length answer))
IsOutputOrReport form tables text old new report Fault = (fault : DriveFault) × IsFaultOn tables text fault
    × TellsFault fault report × (new ≡ old)
IsOutputOrReport form tables text old new report Memory = (report ≡ nothing_told) × (new ≡ old)
IsOutputOrReport form tables text old new report Misused = ⊥
IsOutputOrReport form tables text old new report Short = (outcome : Outcome) × (answer : List ℕ)
    × IsOutput form tables text outcome answer × (length old < length answer) × (report ≡ needing (length answer))
    × (new ≡ old)
