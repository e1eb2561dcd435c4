use Rattle.std.proofs.Common.{[], ◌∷◌, ◌++◌, append_assoc, subst}
use Rattle.ly_drive.proofs.FaultLemmas.{handed_on}
use Rattle.ly_drive.proofs.LineLemmas.{line_answered, line_stopped, part_grows, stopped_behind}
use Rattle.ly_drive.specs.Private.Lines.{AreTaken, IsLineAnswered, IsLineStopped}
use Rattle.ly_drive.proofs.lines.Lines.take_byte.Goals as goal

pub returns-in-Ok-clause-taken : goal.returns-in-Ok-clause-taken
returns-in-Ok-clause-taken g c front before h =
    part_grows c.args.form c.args.prepared.now before front (g.W.Sink.contents c.args.writer.now) c.args.self.now.part.items
    c.args.self.now.outcome h c.args.byte c.push.new.self.items c.if-byte-ne10.true
    c.in-Ok.ensures.items

pub returns-in-Err-clause-taken : goal.returns-in-Err-clause-taken
returns-in-Err-clause-taken g c front before h rest =
    stopped_behind c.args.form c.args.prepared.now before front (g.W.Sink.contents c.args.writer.now)
    c.args.self.now.part.items c.args.self.now.outcome h _ (c.args.byte ∷ rest)
    (append_assoc front (c.args.byte ∷ []) rest)

pub returns-in_err-outcome-clause-taken : goal.returns-in_err-outcome-clause-taken
returns-in_err-outcome-clause-taken g c front before h =
    let now = g.W.Sink.contents c.args.writer.now in
    let after = g.W.Sink.contents c.answer_line.new.writer in
    let form = c.args.form in
    let s = c.args.prepared.now in
    let lines = c.args.self.now in
    let fault = c.in_err-outcome.field-0.0 in
    subst (AreTaken form s (front ++ c.args.byte ∷ []) before after lines.part.items lines.outcome)
    (handed_on c.from_residual.result fault c.from_residual.ensures.1)
    (line_stopped form s before front now lines.part.items lines.outcome h after fault c.args.byte
    c.if-byte-ne10.false
    (subst (λ l. IsLineStopped form s l now after fault) c.deref.ensures.value c.in_err-outcome.ensures.stopped))

pub returns-clause-taken : goal.returns-clause-taken
returns-clause-taken g c front before h =
    let now = g.W.Sink.contents c.args.writer.now in
    let after = g.W.Sink.contents c.answer_line.new.writer in
    let form = c.args.form in
    let s = c.args.prepared.now in
    let lines = c.args.self.now in
    let o = c.in_ok-outcome.outcome in
    line_answered form s before front now lines.part.items lines.outcome h after o c.args.byte
    c.clear.new.self.items c.with-self.result c.if-byte-ne10.false c.clear.ensures.items c.with-self.ensures
    (subst (λ l. IsLineAnswered form s l now after o) c.deref.ensures.value c.in_ok-outcome.ensures.answered)
