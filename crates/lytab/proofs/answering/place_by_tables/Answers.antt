use Rattle.std.proofs.Common.{Err, ap}
use Rattle.lytab.proofs.DrivingLemmas.{tables_refused, written_by}
use Rattle.lytab.proofs.answering.place_by_tables.Goals as goal

pub returns-in-Err-clause-refused : goal.returns-in-Err-clause-refused
returns-in-Err-clause-refused g c =
    let ensures = c.in-Err.ensures in
    tables_refused c.args.tables.now (g.R.Source.remaining c.args.reader.now) c.in-Err.fault c.of_driving.result
    c.of_driving.ensures (λ x is. ensures.refused x (ap Err is)) (λ is. ensures.faulty (ap Err is))
    (λ is. ensures.never_long (ap Err is))

pub returns-in-Err-clause-beginning : goal.returns-in-Err-clause-beginning
returns-in-Err-clause-beginning g c = λ of_writer.
    let n = written_by c.in-Err.fault c.of_driving.result c.of_driving.ensures of_writer in
    let b = c.in-Err.ensures.beginning n.0 (ap Err n.1) in
    (n.0, b.0, b.1, b.2)
