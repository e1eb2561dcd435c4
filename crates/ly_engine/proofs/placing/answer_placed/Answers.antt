use Rattle.std.proofs.Common.{ap, Err}
use Rattle.ly_engine.proofs.AnswerFaultLemmas.{other_text, same_text}
use Rattle.ly_engine.specs.declared.answer_fault.AnswerFault.TheVariants.{Text}
use Rattle.ly_feed.proofs.FaultLemmas.{same_fault}
use Rattle.ly_feed.specs.declared.text_fault.TextFault.TheVariants.{FaultyTables, Read, TooLong}
use Rattle.ly_engine.proofs.placing.answer_placed.Goals as goal

pub returns-in_err-answered-clause-never_faulty : goal.returns-in_err-answered-clause-never_faulty
returns-in_err-answered-clause-never_faulty g c is =
    let fault = c.in_err-answered.field-0.0 in
    let same = same_text fault FaultyTables (same_fault c.from_residual-in_err-answered.result (Text fault)
    (Text FaultyTables) c.from_residual-in_err-answered.ensures.1 is) in
    let faulty = c.in_err-answered.ensures.faulty (ap Err same) in
    c.in_ok-generated.ensures.generated.0.never_faulty faulty.0 faulty.2

pub returns-in_err-answered-clause-never_long : goal.returns-in_err-answered-clause-never_long
returns-in_err-answered-clause-never_long g c is =
    let fault = c.in_err-answered.field-0.0 in
    c.in_err-answered.ensures.never_long (ap Err (same_text fault TooLong
    (same_fault c.from_residual-in_err-answered.result (Text fault) (Text TooLong)
    c.from_residual-in_err-answered.ensures.1 is)))

pub returns-in_err-answered-clause-reader_held : goal.returns-in_err-answered-clause-reader_held
returns-in_err-answered-clause-reader_held g c not =
    let fault = c.in_err-answered.field-0.0 in
    c.in_err-answered.ensures.reader_held
    (other_text c.from_residual-in_err-answered.result fault Read c.from_residual-in_err-answered.ensures.1 not)
