use Rattle.std.proofs.Common.{◌∙◌, ap, arith, take}
use Rattle.std.proofs.lemmas.Grind.{common_steps}
use Rattle.ly_print.specs.TextWriter.{Outgoing}
use Rattle.ly_print.proofs.TextWriterLemmas.{fails_behind, goes_behind, held_behind, passed_on}
use Rattle.ly_print.proofs.text_writer.TextWriter.push_behind.Goals as goal

pub returns-in_err-send-clause-text : goal.returns-in_err-send-clause-text
returns-in_err-send-clause-text g c =
    passed_on c.args.self.now c.args.self.now _ _ _ _ _ _ c.from_residual.ensures.1
    (fails_behind c.args.self.now _ _ (ap (λ (o : Outgoing). o.sent) c.self.view_is)
    (ap (take c.self.inside.used) c.deref.ensures.value ∙ ap (λ (o : Outgoing). o.held) c.self.view_is)
    c.args.self.now _ _ c.args.bytes.now c.in_err-send.field-0.0 c.in_err-send.ensures.partial)

pub returns-then-bytes-len-clause-text : goal.returns-then-bytes-len-clause-text
returns-then-bytes-len-clause-text g c =
    goes_behind c.args.self.now _ _ (ap (λ (o : Outgoing). o.sent) c.self.view_is)
    (ap (take c.self.inside.used) c.deref.ensures.value ∙ ap (λ (o : Outgoing). o.held) c.self.view_is)
    _ _ _ c.send.new.sent c.send-then-bytes-len.new.sent c.args.bytes.now c.send-then-bytes-len.result
    c.in_ok-send.ensures.ok c.in_ok-send.ensures.counted c.send-then-bytes-len.ensures.ok
    c.send-then-bytes-len.ensures.counted c.send-then-bytes-len.ensures.partial

pub returns-clause-text : goal.returns-clause-text
returns-clause-text g c =
    held_behind c.args.self.now _ _ (ap (λ (o : Outgoing). o.sent) c.self.view_is)
    (ap (take c.self.inside.used) c.deref.ensures.value ∙ ap (λ (o : Outgoing). o.held) c.self.view_is)
    _ _ c.send.new.sent _ c.args.bytes.now c.in_ok-send.ensures.ok c.in_ok-send.ensures.counted
    (grind (arith, common_steps))
