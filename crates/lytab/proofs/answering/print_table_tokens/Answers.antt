use Rattle.std.proofs.Common.{Err, ap}
use Rattle.lytab.proofs.DrivingLemmas.{scanner_refused, written_by}
use Rattle.lytab.proofs.answering.print_table_tokens.Goals as goal

pub returns-in-Err-clause-refused : goal.returns-in-Err-clause-refused
returns-in-Err-clause-refused g c =
    let ensures = c.in-Err.ensures in
    scanner_refused c.args.tables.now (g.R.Source.remaining c.args.reader.now) c.in-Err.fault c.of_driving.result
    c.of_driving.ensures (λ x is. ensures.refused x (ap Err is)) (λ is. ensures.faulty (ap Err is))
    (λ is. ensures.never_long (ap Err is))

pub returns-in-Err-clause-beginning : goal.returns-in-Err-clause-beginning
returns-in-Err-clause-beginning g c = λ of_writer.
    let n = written_by c.in-Err.fault c.of_driving.result c.of_driving.ensures of_writer in
    let b = c.in-Err.ensures.beginning n.0 (ap Err n.1) in
    (n.0, b.0, b.1, b.2, b.3, b.4, b.5.within, b.5.went_out)
