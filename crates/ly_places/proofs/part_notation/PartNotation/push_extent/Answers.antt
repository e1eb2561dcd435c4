use Rattle.std.proofs.Common.{◌++◌, append_assoc, codes}
use Rattle.ly_print.proofs.TextWriterLemmas.{appended_twice, failed_before, same_bytes}
use Rattle.ly_spans.specs.Spans.{json_location}
use Rattle.ly_places.proofs.part_notation.PartNotation.push_extent.Goals as goal

pub returns-in_err-push_place-clause-text : goal.returns-in_err-push_place-clause-text
returns-in_err-push_place-clause-text g c =
    let text = c.args.self.now.lines in
    failed_before c.args.out.now c.push_place.new.out _ _ _
    (codes ",\"start\":" ++ json_location text c.args.extent.start)
    (codes ",\"end\":" ++ json_location text c.args.extent.end) _ _ c.in_err-push_place.field-0.0
    (append_assoc (codes ",\"start\":") (json_location text c.args.extent.start)
    (codes ",\"end\":" ++ json_location text c.args.extent.end))
    c.from_residual.ensures.1 c.in_err-push_place.ensures.text

pub returns-clause-text : goal.returns-clause-text
returns-clause-text g c =
    let text = c.args.self.now.lines in
    let out = c.args.out.now in
    same_bytes out c.push_place-2.new.out _ _ _ _ c.push_place-2.result
    (append_assoc (codes ",\"start\":") (json_location text c.args.extent.start)
    (codes ",\"end\":" ++ json_location text c.args.extent.end))
    (appended_twice out c.push_place.new.out c.push_place-2.new.out _ _ _
    (codes ",\"start\":" ++ json_location text c.args.extent.start)
    (codes ",\"end\":" ++ json_location text c.args.extent.end) tt c.push_place-2.result
    c.in_ok-push_place.ensures.text c.push_place-2.ensures.text)
