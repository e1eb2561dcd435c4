use Rattle.std.proofs.Common.{IfErr, subst}
use Rattle.ly_drive.specs.Private.Lines.{IsLineStopped}
use Rattle.ly_drive.proofs.line.answer_line.Goals as goal

pub returns-clause-stopped : goal.returns-clause-stopped
returns-clause-stopped g c =
    let before = g.W.Sink.contents c.args.writer.now in
    let after = g.W.Sink.contents c.feed_whole-answered.new.writer in
    subst (λ f. IfErr c.feed_whole-answered.result (IsLineStopped f.form f.set c.args.line.now before after))
    c.new-feed.ensures c.feed_whole-answered.ensures.stopped
