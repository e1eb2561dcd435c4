use Rattle.std.proofs.Common.{◌∙◌, Err, IfErr, Ok, ap, refl, subst}
use Rattle.std.specs.Io.KnownBytes.{Appends}
use Rattle.std.proofs.KnownBytes.{Appends-nil}
use Rattle.ly_drive.proofs.FaultLemmas.{cut_short, handed_on}
use Rattle.ly_drive.proofs.WholeLemmas.{answered_whole, faulty_whole, onward_whole, settled_whole, stopped_whole}
use Rattle.ly_drive.specs.Private.Lines.{IsLineStopped}
use Rattle.ly_drive.proofs.line.feed_whole.Goals as goal
use Rattle.ly_feed.specs.Held.{TakesPiece}
use Rattle.ly_feed.specs.declared.text_fault.TextFault.TheVariants.{Write}

pub returns-in_err-write_whole-in-Ok-Settled-clause-stopped :
    goal.returns-in_err-write_whole-in-Ok-Settled-clause-stopped
returns-in_err-write_whole-in-Ok-Settled-clause-stopped g c =
    let before = g.W.Sink.contents c.args.writer.now in
    let after = g.W.Sink.contents c.write_whole.new.writer in
    let f = c.args.feed.now in
    let line = c.args.text.now in
    let begun = c.requires.begins in
    let piece = subst (TakesPiece f line c.piece.new.self) (c.in-Ok-Settled.is ∙ ap Ok c.in-Ok-Settled.field-0-is)
    (c.piece.ensures.before_end (ap (λ x. x.over) begun)) in
    let o = c.in-Ok-Settled.outcome in
    let answer = c.in-Ok-Settled.answer.items in
    let failed = c.in_err-write_whole-in-Ok-Settled in
    let count = failed.field-0.0.written in
    subst (λ r. IfErr r (IsLineStopped f.form f.set line before after))
    (handed_on c.from_residual.result (Write count) c.from_residual.ensures.1) (
      o,
      answer,
      settled_whole f.form f.set line f begun o answer piece.2,
      cut_short before after count count _ answer refl c.deref.ensures.value failed.ensures.within
          failed.ensures.partial,
    )

pub returns-in-Ok-More-clause-answered : goal.returns-in-Ok-More-clause-answered
returns-in-Ok-More-clause-answered g c =
    let f = c.args.feed.now in
    let line = c.args.text.now in
    let begun = c.requires.begins in
    let piece = subst (TakesPiece f line c.piece.new.self) (c.in-Ok-More.is ∙ ap Ok c.in-Ok-More.field-0-is)
    (c.piece.ensures.before_end (ap (λ x. x.over) begun)) in
    answered_whole f.form f.set line c.piece.new.self (onward_whole f.form f.set line f begun c.piece.new.self piece)
    (g.W.Sink.contents c.args.writer.now) (g.W.Sink.contents c.finish_into.new.writer) c.finish_into.result
    c.finish_into.ensures.answered

pub returns-in-Ok-More-clause-stopped : goal.returns-in-Ok-More-clause-stopped
returns-in-Ok-More-clause-stopped g c =
    let f = c.args.feed.now in
    let line = c.args.text.now in
    let begun = c.requires.begins in
    let piece = subst (TakesPiece f line c.piece.new.self) (c.in-Ok-More.is ∙ ap Ok c.in-Ok-More.field-0-is)
    (c.piece.ensures.before_end (ap (λ x. x.over) begun)) in
    let end = c.finish_into.ensures in
    stopped_whole f.form f.set line c.piece.new.self (onward_whole f.form f.set line f begun c.piece.new.self piece)
    g.W.Sink.contents c.args.writer.now c.finish_into.new.writer c.finish_into.result end.beginning end.faulty
    end.ending end.untouched

pub returns-in_ok-write_whole-in-Ok-Settled-clause-answered :
    goal.returns-in_ok-write_whole-in-Ok-Settled-clause-answered
returns-in_ok-write_whole-in-Ok-Settled-clause-answered g c =
    let before = g.W.Sink.contents c.args.writer.now in
    let after = g.W.Sink.contents c.write_whole.new.writer in
    let f = c.args.feed.now in
    let line = c.args.text.now in
    let begun = c.requires.begins in
    let piece = subst (TakesPiece f line c.piece.new.self) (c.in-Ok-Settled.is ∙ ap Ok c.in-Ok-Settled.field-0-is)
    (c.piece.ensures.before_end (ap (λ x. x.over) begun)) in
    let o = c.in-Ok-Settled.outcome in
    let answer = c.in-Ok-Settled.answer.items in (
      answer,
      settled_whole f.form f.set line f begun o answer piece.2,
      subst (Appends before after) c.deref.ensures.value c.in_ok-write_whole-in-Ok-Settled.ensures.ok,
    )

pub returns-in-Err-FaultyTables-clause-stopped : goal.returns-in-Err-FaultyTables-clause-stopped
returns-in-Err-FaultyTables-clause-stopped g c =
    let f = c.args.feed.now in
    let line = c.args.text.now in
    let begun = c.requires.begins in
    let piece = subst (TakesPiece f line c.piece.new.self)
    (c.in-Err-FaultyTables.is ∙ ap Err c.in-Err-FaultyTables.field-0-is)
    (c.piece.ensures.before_end (ap (λ x. x.over) begun)) in
    (faulty_whole f.form f.set line f begun piece.2, Appends-nil (g.W.Sink.contents c.args.writer.now))
