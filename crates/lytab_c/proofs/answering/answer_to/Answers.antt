use Rattle.std.proofs.Common.{◌≡◌, ◌∙◌, ◌≤◌, ◌^◌, Err, ap, arith, length, subst}
use Rattle.ly_feed.specs.TableAnswer.{IsVerdict}
use Rattle.ly_feed.specs.Verdict.{faulty}
use Rattle.lytab_c.proofs.FaultLemmas.{drive_fault, handed_on}
use Rattle.lytab_c.specs.Faults.{IsFaultOn}
use Rattle.lytab_c.specs.Private.Reading.{unread}
use Rattle.lytab_c.proofs.answering.answer_to.Goals as goal

pub returns-in_err-outcome-clause-fault : goal.returns-in_err-outcome-clause-fault
returns-in_err-outcome-clause-fault c =
    let tables = c.args.tables.now in
    let text = c.args.text.now in
    let fault = c.in_err-outcome.field-0.0 in
    let told = c.in_err-outcome.ensures in
    let all : unread c.new-source.result ≡ text = c.new-source.ensures in
    handed_on (IsFaultOn tables text) c.from_residual.result fault c.from_residual.ensures.1
    (drive_fault tables text fault (λ f is. told.refused f (ap Err is))
    (λ is. let on = told.faulty (ap Err is) in
    (on.0, on.1, subst (λ x. IsVerdict on.0 x faulty) (on.2.1 ∙ all) on.2.2))
    (λ is. let long : 2 ^ 64 ≤ length (unread c.new-source.result) = told.long (ap Err is) in
    let same = ap length all in omega arith)
    (λ is. let off : 0 ≡ 1 = told.read (ap Err is) in cc))
