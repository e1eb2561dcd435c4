use Rattle.std.proofs.Common.{◌∙◌, ◌++◌, IfErr, arith, length-append, subst, take}
use Rattle.std.proofs.KnownBytes.{Consumes-trans}
use Rattle.ly_drive.proofs.FaultLemmas.{handed_on}
use Rattle.ly_drive.proofs.LineLemmas.{all_ended, nothing_came, stopped_reading, unread_text}
use Rattle.ly_drive.proofs.SoFarLemmas.{left}
use Rattle.ly_drive.specs.Lines.{AreLinesStopped}
use Rattle.ly_drive.proofs.lines.answer_all.Goals as goal

pub returns-in-Ok-eq0-clause-answered : goal.returns-in-Ok-eq0-clause-answered
returns-in-Ok-eq0-clause-answered g c =
    let given = g.R.Source.remaining c.args.reader.now in
    let mid = g.R.Source.remaining c.loop-lines.reader in
    let end = g.R.Source.remaining c.pull.new.self in
    let before = g.W.Sink.contents c.args.writer.now in
    let after = g.W.Sink.contents c.end.new.writer in
    let so_far = c.loop-lines.invariant.so_far in
    let none = nothing_came mid end c.in-Ok-eq0.field-0 c.pull.new.buf c.in-Ok-eq0.field-0-test
    (omega (arith, c.loop-lines.invariant.room, c.pull.auto.buf)) c.in-Ok-eq0.ensures.bytes in
    (all_ended c.args.form c.args.prepared.now given mid end before after so_far.0 c.end.result so_far.1 none.0 none.1
    (c.end.ensures.ended so_far.0 before so_far.3)).0

pub returns-in-Ok-eq0-clause-stopped : goal.returns-in-Ok-eq0-clause-stopped
returns-in-Ok-eq0-clause-stopped g c =
    let given = g.R.Source.remaining c.args.reader.now in
    let mid = g.R.Source.remaining c.loop-lines.reader in
    let end = g.R.Source.remaining c.pull.new.self in
    let before = g.W.Sink.contents c.args.writer.now in
    let after = g.W.Sink.contents c.end.new.writer in
    let so_far = c.loop-lines.invariant.so_far in
    let none = nothing_came mid end c.in-Ok-eq0.field-0 c.pull.new.buf c.in-Ok-eq0.field-0-test
    (omega (arith, c.loop-lines.invariant.room, c.pull.auto.buf)) c.in-Ok-eq0.ensures.bytes in
    (all_ended c.args.form c.args.prepared.now given mid end before after so_far.0 c.end.result so_far.1 none.0 none.1
    (c.end.ensures.ended so_far.0 before so_far.3)).1

pub returns-in-Err-clause-stopped : goal.returns-in-Err-clause-stopped
returns-in-Err-clause-stopped g c =
    let so_far = c.loop-lines.invariant.so_far in
    let lines = c.loop-lines.lines in
    stopped_reading c.args.form c.args.prepared.now (g.R.Source.remaining c.args.reader.now)
    (g.R.Source.remaining c.loop-lines.reader) (g.W.Sink.contents c.args.writer.now)
    (g.W.Sink.contents c.loop-lines.writer) so_far.0 lines.part.items lines.outcome so_far.1 so_far.3

pub returns-in-None-clause-stopped : goal.returns-in-None-clause-stopped
returns-in-None-clause-stopped g c =
    let so_far = c.loop-lines.invariant.so_far in
    let lines = c.loop-lines.lines in
    stopped_reading c.args.form c.args.prepared.now (g.R.Source.remaining c.args.reader.now)
    (g.R.Source.remaining c.loop-lines.reader) (g.W.Sink.contents c.args.writer.now)
    (g.W.Sink.contents c.loop-lines.writer) so_far.0 lines.part.items lines.outcome so_far.1 so_far.3

pub loop-lines-preserved : goal.loop-lines-preserved
loop-lines-preserved g c =
    let given = g.R.Source.remaining c.args.reader.now in
    let mid = g.R.Source.remaining c.loop-lines.reader in
    let after = g.R.Source.remaining c.pull.new.self in
    let i = c.loop-lines.invariant in
    let bytes = i.so_far.0 in
    let piece = take c.in-Ok.count c.pull.new.buf in
    let pulled = c.in-Ok.ensures in record {
      so_far = (
        bytes ++ piece,
        Consumes-trans given mid after bytes piece i.so_far.1 pulled.bytes.0,
        omega (arith, length-append bytes piece, pulled.bound.1, i.so_far.2, c.in-Some.ensures),
        c.in_ok-take.ensures.taken bytes (g.W.Sink.contents c.args.writer.now) i.so_far.3,
      );
      read = pulled.counted ∙ i.read;
      held = c.in_ok-take.ensures.writer_held ∙ i.held;
      room = omega (arith, i.room, c.pull.auto.buf);
      small = omega (arith, c.in-Some.ensures);
    }

pub returns-in_err-take-clause-stopped : goal.returns-in_err-take-clause-stopped
returns-in_err-take-clause-stopped g c =
    let given = g.R.Source.remaining c.args.reader.now in
    let mid = g.R.Source.remaining c.loop-lines.reader in
    let after = g.R.Source.remaining c.pull.new.self in
    let before = g.W.Sink.contents c.args.writer.now in
    let now = g.W.Sink.contents c.take.new.writer in
    let so_far = c.loop-lines.invariant.so_far in
    let bytes = so_far.0 in
    let piece = take c.in-Ok.count c.pull.new.buf in
    let fault = c.in_err-take.field-0.0 in
    subst (λ r. IfErr r (AreLinesStopped c.args.form c.args.prepared.now given before now))
    (handed_on c.from_residual.result fault c.from_residual.ensures.1) (
      (bytes ++ piece) ++ left after,
      unread_text given after (bytes ++ piece)
          (Consumes-trans given mid after bytes piece so_far.1 c.in-Ok.ensures.bytes.0),
      c.in_err-take.ensures.taken bytes before so_far.3 (left after),
    )
