-- What is put into a block and told is what a call says.
use Rattle.std.proofs.Common.{◌≡◌, ℕ, List, subst}
use Rattle.ly_base.specs.Limits.{version_2}
use Rattle.ly_feed.specs.declared.outcome.Outcome.{Outcome}
use Rattle.ly_generate.specs.Accepted.{IsRefusedFor}
use Rattle.ly_generate.specs.declared.gen_fault.GenFault.{GenFault}
use Rattle.ly_print.specs.declared.answer_form.AnswerForm.{AnswerForm}
use Rattle.ly_report.specs.declared.counts.ConflictCounts.{ConflictCounts}
use Rattle.lytab_c.specs.Answered.{IsOutput, IsOutputOrReport}
use Rattle.lytab_c.specs.Building.{IsBuildOf, IsBuilt}
use Rattle.lytab_c.specs.Private.Putting.{AreTablesPut, IsAnswerPut, IsBuildFaultTold}
use Rattle.lytab_c.specs.declared.build_report.BuildReport.{BuildReport}
use Rattle.lytab_c.specs.declared.report.Report.{Report}
use Rattle.lytab_c.specs.declared.status.Status.{Status}
use Rattle.lytab_c.specs.declared.status.Status.TheVariants.{Done, Fault, Memory, Misused, Refused, Short}

-- an answer
pub answer_told : (form : AnswerForm) (tables text old new : List ℕ) (report : Report) (status : Status) (o : Outcome)
    (answer : List ℕ) → IsOutput form tables text o answer → IsAnswerPut o answer old new report status
    → IsOutputOrReport form tables text old new report status
answer_told form tables text old new report Done o answer is put =
    (answer, subst (λ x. IsOutput form tables text x answer) put.0 is, put.1, put.2)
answer_told form tables text old new report Refused o answer is put = (o, answer, put.0, is, put.1, put.2)
answer_told form tables text old new report Fault o answer is put = absurd put
answer_told form tables text old new report Memory o answer is put = absurd put
answer_told form tables text old new report Misused o answer is put = absurd put
answer_told form tables text old new report Short o answer is put = (o, answer, is, put.0, put.1, put.2)

-- a table file
pub build_told : (lex yacc old new : List ℕ) (built : BuildReport) (status : Status) (bytes : List ℕ)
    (conflicts : ConflictCounts) → IsBuildOf lex yacc bytes conflicts
    → AreTablesPut bytes conflicts old new built status → IsBuilt lex yacc old new built status
build_told lex yacc old new built Done bytes conflicts is put = (bytes, conflicts, is, put.0, put.1)
build_told lex yacc old new built Refused bytes conflicts is put = absurd put
build_told lex yacc old new built Fault bytes conflicts is put = absurd put
build_told lex yacc old new built Memory bytes conflicts is put = absurd put
build_told lex yacc old new built Misused bytes conflicts is put = absurd put
build_told lex yacc old new built Short bytes conflicts is put = (bytes, conflicts, is, put.0, put.1, put.2)

-- a refusal of two files
pub refusal_told : (lex yacc old new : List ℕ) (built : BuildReport) (status : Status) (fault : GenFault)
    → IsRefusedFor version_2 lex yacc fault → IsBuildFaultTold fault lex yacc built status → new ≡ old
    → IsBuilt lex yacc old new built status
refusal_told lex yacc old new built Done fault is told same = absurd told
refusal_told lex yacc old new built Refused fault is told same = absurd told
refusal_told lex yacc old new built Fault fault is told same = (fault, told.0, is, told.1, told.2, same)
refusal_told lex yacc old new built Memory fault is told same = (told.1, same)
refusal_told lex yacc old new built Misused fault is told same = absurd told
refusal_told lex yacc old new built Short fault is told same = absurd told
