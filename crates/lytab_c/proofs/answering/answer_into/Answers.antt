use Rattle.std.proofs.Common.{arith, subst}
use Rattle.lytab_c.proofs.FitLemmas.{outcome_fits}
use Rattle.lytab_c.proofs.ToldLemmas.{answer_told}
use Rattle.lytab_c.specs.Private.Putting.{IsAnswerPut}
use Rattle.lytab_c.proofs.answering.answer_into.Goals as goal

pub put_answer-requires : goal.put_answer-requires
put_answer-requires c =
    outcome_fits c.args.form c.args.tables.now c.args.text.now c.in-Ok.outcome c.in-Ok.answer.items (omega arith)
    c.in-Ok.ensures.answered

pub returns-in-Ok : goal.returns-in-Ok
returns-in-Ok c =
    let old = c.args.block.now in
    let new = c.put_answer.new.block in
    let report = c.put_answer.new.report in
    answer_told c.args.form c.args.tables.now c.args.text.now old new report c.put_answer.result c.in-Ok.outcome
    c.in-Ok.answer.items c.in-Ok.ensures.answered
    (subst (λ answer. IsAnswerPut c.in-Ok.outcome answer old new report c.put_answer.result) c.deref.ensures.value
    c.put_answer.ensures)
