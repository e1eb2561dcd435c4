use Rattle.std.proofs.Common.{[], Err, ap, refl, subst, sym}
use Rattle.std.proofs.KnownBytes.{Consumes-nil}
use Rattle.ly_drive.proofs.FaultLemmas.{only_memory, same_text}
use Rattle.ly_drive.proofs.LineLemmas.{starts, stopped_reading}
use Rattle.ly_drive.specs.DriveFault.{fault_of_tables}
use Rattle.ly_drive.specs.Lines.{AreAnsweredBehind, AreLinesStopped}
use Rattle.ly_drive.specs.declared.fault.DriveFault.TheVariants.{Text}
use Rattle.ly_drive.specs.declared.lines_outcome.LinesOutcome.TheVariants.{AllTrees}
use Rattle.ly_drive.proofs.lines.drive_lines.Goals as goal
use Rattle.ly_feed.proofs.FaultLemmas.{same_fault}
use Rattle.ly_feed.specs.declared.text_fault.TextFault.TheVariants.{Read}

pub returns-in_err-set-clause-stopped : goal.returns-in_err-set-clause-stopped
returns-in_err-set-clause-stopped g c s driven fault is =
    let given = g.R.Source.remaining c.args.reader.now in
    let before = g.W.Sink.contents c.args.writer.now in
    let form = c.args.form in
    let f = c.in_err-set.field-0.0 in
    let memory = only_memory f fault
    (same_fault c.from_residual.result (fault_of_tables f) (Text fault) c.from_residual.ensures.1 is) in
    subst (AreLinesStopped form s given before before) (sym memory)
    (stopped_reading form s given given before before [] [] AllTrees (Consumes-nil given)
    (starts form s before [] AllTrees refl refl))

pub returns-in_err-answered-clause-stopped : goal.returns-in_err-answered-clause-stopped
returns-in_err-answered-clause-stopped g c s driven fault is =
    let read = c.in_ok-set in
    let same = (c.a_file_has_one_set.ensures c.args.tables.now read._version driven.0 read.set s read.ensures.spelled
    driven.1).1 in
    let given = g.R.Source.remaining c.args.reader.now in
    let before = g.W.Sink.contents c.args.writer.now in
    let after = g.W.Sink.contents c.run_lines-answered.new.writer in
    let form = c.args.form in
    let own = c.in_err-answered.field-0.0 in
    let told = same_text own fault (same_fault c.from_residual-in_err-answered.result (Text own) (Text fault)
    c.from_residual-in_err-answered.ensures.1 is) in
    subst (λ x. AreLinesStopped form x given before after fault) same
    (subst (AreLinesStopped form read.set given before after) told c.in_err-answered.ensures.stopped)

pub returns-in_err-answered-clause-asked : goal.returns-in_err-answered-clause-asked
returns-in_err-answered-clause-asked g c s driven is =
    let read = c.in_ok-set in
    let same = (c.a_file_has_one_set.ensures c.args.tables.now read._version driven.0 read.set s read.ensures.spelled
    driven.1).1 in
    let given = g.R.Source.remaining c.args.reader.now in
    let left = g.R.Source.remaining c.run_lines-answered.new.reader in
    let before = g.W.Sink.contents c.args.writer.now in
    let after = g.W.Sink.contents c.run_lines-answered.new.writer in
    let own = c.in_err-answered.field-0.0 in
    subst (λ x. AreAnsweredBehind c.args.form x given left before after) same
    (c.in_err-answered.ensures.asked
    (ap Err (same_text own Read (same_fault c.from_residual-in_err-answered.result (Text own) (Text Read)
    c.from_residual-in_err-answered.ensures.1 is))))
