use Rattle.std.proofs.Common.{[], IfErr, refl, subst}
use Rattle.std.specs.Prelude.{IfOk}
use Rattle.std.proofs.KnownBytes.{Consumes-nil}
use Rattle.ly_drive.proofs.FaultLemmas.{handed_on}
use Rattle.ly_drive.proofs.LineLemmas.{starts, stopped_reading}
use Rattle.ly_drive.specs.Lines.{AreAnsweredBehind, AreLinesAnswered, AreLinesStopped}
use Rattle.ly_drive.specs.declared.lines_outcome.LinesOutcome.TheVariants.{AllTrees}
use Rattle.ly_drive.proofs.lines.run_lines.Goals as goal
use Rattle.ly_feed.specs.declared.text_fault.TextFault.TheVariants.{OutOfMemory}

pub returns-in_err-room-clause-stopped : goal.returns-in_err-room-clause-stopped
returns-in_err-room-clause-stopped g c =
    let given = g.R.Source.remaining c.args.reader.now in
    let before = g.W.Sink.contents c.args.writer.now in
    let form = c.args.form in
    let s = c.args.set.now in
    subst (λ r. IfErr r (AreLinesStopped form s given before before))
    (handed_on c.from_residual.result OutOfMemory c.from_residual.ensures.1)
    (stopped_reading form s given given before before [] [] AllTrees (Consumes-nil given)
    (starts form s before [] AllTrees refl refl))

pub returns-in_err-prepared-clause-stopped : goal.returns-in_err-prepared-clause-stopped
returns-in_err-prepared-clause-stopped g c =
    let given = g.R.Source.remaining c.args.reader.now in
    let before = g.W.Sink.contents c.args.writer.now in
    let form = c.args.form in
    let s = c.args.set.now in
    subst (λ r. IfErr r (AreLinesStopped form s given before before))
    (handed_on c.from_residual-in_err-prepared.result OutOfMemory c.from_residual-in_err-prepared.ensures.1)
    (stopped_reading form s given given before before [] [] AllTrees (Consumes-nil given)
    (starts form s before [] AllTrees refl refl))

pub returns-clause-answered : goal.returns-clause-answered
returns-clause-answered g c =
    subst (λ s. IfOk c.answer_all-answered.result (AreLinesAnswered c.args.form s
    (g.R.Source.remaining c.args.reader.now) (g.W.Sink.contents c.args.writer.now)
    (g.W.Sink.contents c.answer_all-answered.new.writer))) c.in_ok-prepared.ensures
    c.answer_all-answered.ensures.answered

pub returns-clause-stopped : goal.returns-clause-stopped
returns-clause-stopped g c =
    subst (λ s. IfErr c.answer_all-answered.result (AreLinesStopped c.args.form s
    (g.R.Source.remaining c.args.reader.now) (g.W.Sink.contents c.args.writer.now)
    (g.W.Sink.contents c.answer_all-answered.new.writer))) c.in_ok-prepared.ensures
    c.answer_all-answered.ensures.stopped

pub returns-clause-asked : goal.returns-clause-asked
returns-clause-asked g c is =
    subst (λ s. AreAnsweredBehind c.args.form s (g.R.Source.remaining c.args.reader.now)
    (g.R.Source.remaining c.answer_all-answered.new.reader) (g.W.Sink.contents c.args.writer.now)
    (g.W.Sink.contents c.answer_all-answered.new.writer)) c.in_ok-prepared.ensures
    (c.answer_all-answered.ensures.asked is)
