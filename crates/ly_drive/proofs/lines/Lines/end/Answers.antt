use Rattle.std.proofs.Common.{◌∙◌, ap, arith, length, subst, sym}
use Rattle.std.proofs.lemmas.List.{nil_from_length}
use Rattle.std.proofs.lemmas.Bool.{eqb-false, eqb-true}
use Rattle.ly_drive.proofs.FaultLemmas.{handed_on}
use Rattle.ly_drive.proofs.LineLemmas.{ended_in_line, ended_whole, last_stopped}
use Rattle.ly_drive.specs.Private.Lines.{AreEnded, IsLineAnswered, IsLineStopped}
use Rattle.ly_drive.proofs.lines.Lines.end.Goals as goal

pub returns-then-is_empty-clause-ended : goal.returns-then-is_empty-clause-ended
returns-then-is_empty-clause-ended g c text before h =
    ended_whole c.args.form c.args.prepared.now before text (g.W.Sink.contents c.args.writer.now) c.args.self.part.items
    c.args.self.outcome h
    (nil_from_length c.args.self.part.items (omega (
      arith,
      c.args.self.part.ok,
      eqb-true c.args.self.part.len 0 (sym c.is_empty.ensures ∙ c.if-is_empty.true),
    )))

pub returns-in_err-outcome-clause-ended : goal.returns-in_err-outcome-clause-ended
returns-in_err-outcome-clause-ended g c text before h =
    let now = g.W.Sink.contents c.args.writer.now in
    let after = g.W.Sink.contents c.answer_line.new.writer in
    let form = c.args.form in
    let s = c.args.prepared.now in
    let part = c.args.self.part.items in
    let fault = c.in_err-outcome.field-0.0 in
    subst (AreEnded form s text before after) (handed_on c.from_residual.result fault c.from_residual.ensures.1)
    (last_stopped form s before text now part c.args.self.outcome h after fault
    (λ none. eqb-false c.args.self.part.len 0 (sym c.is_empty.ensures ∙ c.if-is_empty.false)
    (omega (arith, c.args.self.part.ok, ap length none)))
    (subst (λ l. IsLineStopped form s l now after fault) c.deref.ensures.value c.in_err-outcome.ensures.stopped))

pub returns-clause-ended : goal.returns-clause-ended
returns-clause-ended g c text before h =
    let now = g.W.Sink.contents c.args.writer.now in
    let after = g.W.Sink.contents c.answer_line.new.writer in
    let form = c.args.form in
    let s = c.args.prepared.now in
    let part = c.args.self.part.items in
    let o = c.in_ok-outcome.outcome in
    ended_in_line form s before text now part c.args.self.outcome h after o c.with.result
    (λ none. eqb-false c.args.self.part.len 0 (sym c.is_empty.ensures ∙ c.if-is_empty.false)
    (omega (arith, c.args.self.part.ok, ap length none)))
    c.with.ensures
    (subst (λ l. IsLineAnswered form s l now after o) c.deref.ensures.value c.in_ok-outcome.ensures.answered)
