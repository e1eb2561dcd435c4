use Rattle.std.proofs.Common.{reverse, refl}
use Rattle.ly_places.specs.Private.Printing.{behind_opening, opening}
use Rattle.ly_feed.specs.NameMembers.{vocabulary_in}
use Rattle.ly_print.proofs.TextWriterLemmas.{failed_before}
use Rattle.ly_places.proofs.printing.Printing.print.Goals as goal

pub returns-in_err-push_opening-clause-text : goal.returns-in_err-push_opening-clause-text
returns-in_err-push_opening-clause-text g c =
    let n = c.args.notation.now in
    let part = c.args.part.now in
    failed_before c.args.self.now.out c.push_opening.new.out _ _ _
    (opening (vocabulary_in n.names) n.lines part.kind part.extent)
    (behind_opening part c.args.left (reverse c.args.self.now.nodes.items)) _ _ c.in_err-push_opening.field-0.0 refl
    c.from_residual.ensures.1 c.in_err-push_opening.ensures.text
