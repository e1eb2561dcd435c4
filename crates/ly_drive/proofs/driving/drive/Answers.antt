use Rattle.std.proofs.Common.{◌≡◌, Err, Ok, ap, subst}
use Rattle.ly_drive.proofs.FaultLemmas.{other_text, same_text}
use Rattle.ly_drive.proofs.SoFarLemmas.{nothing_needed}
use Rattle.ly_drive.specs.Answering.{NeedsMoreInput, IsReadAsNeeded}
use Rattle.ly_drive.proofs.driving.drive.Goals as goal
use Rattle.ly_drive.specs.declared.fault.DriveFault.TheVariants.{Text}
use Rattle.ly_feed.proofs.FaultLemmas.{same_fault}
use Rattle.ly_feed.specs.declared.text_fault.TextFault.TheVariants.{Read}

pub returns-in_err-set-clause-needed : goal.returns-in_err-set-clause-needed
returns-in_err-set-clause-needed g c s driven not = nothing_needed 4096 s (g.R.Source.remaining c.args.reader.now)

pub returns-clause-needed : goal.returns-clause-needed
returns-clause-needed g c s driven not =
    let read = c.in_ok-set in
    let same = (c.a_file_has_one_set.ensures c.args.tables.now read._version driven.0 read.set s read.ensures.spelled
    driven.1).1 in
    let before = g.R.Source.remaining c.args.reader.now in
    let after = g.R.Source.remaining c.run-answered.new.reader in
    subst (λ x. IsReadAsNeeded 4096 x before after) same
    (c.in_ok-answered.ensures.needed (λ is. let off : Ok c.in_ok-answered.field-0 ≡ Err Read = is in cc))

pub returns-in_err-answered-clause-needed : goal.returns-in_err-answered-clause-needed
returns-in_err-answered-clause-needed g c s driven not =
    let read = c.in_ok-set in
    let same = (c.a_file_has_one_set.ensures c.args.tables.now read._version driven.0 read.set s read.ensures.spelled
    driven.1).1 in
    let before = g.R.Source.remaining c.args.reader.now in
    let after = g.R.Source.remaining c.run-answered.new.reader in
    subst (λ x. IsReadAsNeeded 4096 x before after) same
    (c.in_err-answered.ensures.needed
    (other_text c.from_residual-in_err-answered.result c.in_err-answered.field-0.0 Read
    c.from_residual-in_err-answered.ensures.1 not))

pub returns-in_err-answered-clause-asked : goal.returns-in_err-answered-clause-asked
returns-in_err-answered-clause-asked g c s driven is =
    let read = c.in_ok-set in
    let same = (c.a_file_has_one_set.ensures c.args.tables.now read._version driven.0 read.set s read.ensures.spelled
    driven.1).1 in
    let before = g.R.Source.remaining c.args.reader.now in
    let after = g.R.Source.remaining c.run-answered.new.reader in
    subst (λ x. NeedsMoreInput x before after) same
    (c.in_err-answered.ensures.asked
    (ap Err (same_text c.in_err-answered.field-0.0 Read
    (same_fault c.from_residual-in_err-answered.result (Text c.in_err-answered.field-0.0) (Text Read)
    c.from_residual-in_err-answered.ensures.1 is))))
