use Rattle.std.proofs.Common.{◌∙◌, ap, take}
use Rattle.ly_print.specs.TextWriter.{Outgoing}
use Rattle.ly_print.proofs.TextWriterLemmas.{goes_last}
use Rattle.ly_print.proofs.text_writer.TextWriter.finish.Goals as goal

pub returns-clause-text : goal.returns-clause-text
returns-clause-text g c =
    goes_last c.args.self _ _ (ap (λ (o : Outgoing). o.sent) c.self.view_is)
    (ap (take c.self.inside.used) c.deref.ensures.value ∙ ap (λ (o : Outgoing). o.held) c.self.view_is)
    _ _ c.send.result c.send.ensures.ok c.send.ensures.partial
