use Rattle.std.proofs.Common.{◌≡◌, Err, Ok, ap, inl, inr, refl}
use Rattle.ly_engine.proofs.AnswerFaultLemmas.{other_text, same_text}
use Rattle.ly_engine.specs.declared.answer_fault.AnswerFault.TheVariants.{Text}
use Rattle.ly_feed.proofs.FaultLemmas.{same_fault}
use Rattle.ly_feed.specs.declared.text_fault.TextFault.TheVariants.{FaultyTables, Read}
use Rattle.ly_engine.proofs.answering.answer.Goals as goal

pub returns-in_err-generated-clause-needed : goal.returns-in_err-generated-clause-needed
returns-in_err-generated-clause-needed g c not = inl refl

pub returns-in_err-answered-clause-never_faulty : goal.returns-in_err-answered-clause-never_faulty
returns-in_err-answered-clause-never_faulty g c is =
    let fault = c.in_err-answered.field-0.0 in
    let same = same_text fault FaultyTables (same_fault c.from_residual-in_err-answered.result (Text fault)
    (Text FaultyTables) c.from_residual-in_err-answered.ensures.1 is) in
    let faulty = c.in_err-answered.ensures.faulty (ap Err same) in
    c.in_ok-generated.ensures.generated.0.never_faulty faulty.0 faulty.2

pub returns-clause-needed : goal.returns-clause-needed
returns-clause-needed g c not =
    let set = c.in_ok-generated.generated.set in
    inr (
      set,
      c.in_ok-generated.ensures.generated.0,
      c.in_ok-answered.ensures.needed (λ is. let off : Ok c.in_ok-answered.field-0 ≡ Err Read = is in cc),
    )

pub returns-in_err-answered-clause-needed : goal.returns-in_err-answered-clause-needed
returns-in_err-answered-clause-needed g c not =
    let set = c.in_ok-generated.generated.set in
    let fault = c.in_err-answered.field-0.0 in
    inr (
      set,
      c.in_ok-generated.ensures.generated.0,
      c.in_err-answered.ensures.needed (other_text c.from_residual-in_err-answered.result fault Read
          c.from_residual-in_err-answered.ensures.1 not),
    )

pub returns-in_err-answered-clause-reader_held : goal.returns-in_err-answered-clause-reader_held
returns-in_err-answered-clause-reader_held g c not =
    let fault = c.in_err-answered.field-0.0 in
    c.in_err-answered.ensures.reader_held
    (other_text c.from_residual-in_err-answered.result fault Read c.from_residual-in_err-answered.ensures.1 not)

pub returns-in_err-answered-clause-asked : goal.returns-in_err-answered-clause-asked
returns-in_err-answered-clause-asked g c is =
    let set = c.in_ok-generated.generated.set in
    let fault = c.in_err-answered.field-0.0 in
    let same = same_text fault Read (same_fault c.from_residual-in_err-answered.result (Text fault) (Text Read)
    c.from_residual-in_err-answered.ensures.1 is) in
    (set, c.in_ok-generated.ensures.generated.0, c.in_err-answered.ensures.asked (ap Err same))
