use Rattle.std.proofs.Common.{◌∙◌, Err, ap, refl, rules}
use Rattle.ly_engine.specs.declared.answer_fault.AnswerFault.TheVariants.{Text}
use Rattle.lytab.proofs.DrivingLemmas.{files_refused, written_by_text}
use Rattle.lytab.proofs.answering.place_by_files.Goals as goal

pub returns-in-Err-Gen-clause-refused : goal.returns-in-Err-Gen-clause-refused
returns-in-Err-Gen-clause-refused g c =
    let refused = c.in-Err-Gen.ensures.refused _ (search rules) in
    rw c.of_files.ensures (refused.0, refused.1, refl)

pub returns-in-Err-Text-clause-refused : goal.returns-in-Err-Text-clause-refused
returns-in-Err-Text-clause-refused g c =
    let ensures = c.in-Err-Text.ensures in
    files_refused c.args.lex.now c.args.yacc.now (g.R.Source.remaining c.args.reader.now) c.in-Err-Text.fault
    c.of_answering.result c.of_answering.ensures
    (λ is. ensures.never_faulty (ap Err (c.in-Err-Text.field-0-is ∙ ap Text is)))
    (λ is. ensures.never_long (ap Err (c.in-Err-Text.field-0-is ∙ ap Text is)))

pub returns-in-Err-Text-clause-beginning : goal.returns-in-Err-Text-clause-beginning
returns-in-Err-Text-clause-beginning g c = λ of_writer.
    let n = written_by_text c.in-Err-Text.fault c.of_answering.result c.of_answering.ensures of_writer in
    let b = c.in-Err-Text.ensures.beginning n.0 (ap Err (c.in-Err-Text.field-0-is ∙ ap Text n.1)) in
    (n.0, b.0, b.1, b.2)
