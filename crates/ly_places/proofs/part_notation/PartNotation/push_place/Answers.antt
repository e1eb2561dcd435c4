use Rattle.std.proofs.Common.{ap₂, refl}
use Rattle.ly_print.proofs.TextWriterLemmas.{appended_twice, failed_before, same_bytes}
use Rattle.ly_print.specs.Json.{json_located}
use Rattle.ly_spans.specs.Spans.{json_location}
use Rattle.ly_places.proofs.part_notation.PartNotation.push_place.Goals as goal

pub returns-in_err-push_bytes-clause-text : goal.returns-in_err-push_bytes-clause-text
returns-in_err-push_bytes-clause-text g c =
    failed_before c.args.out.now c.push_bytes.new.self _ _ _ c.args.key.now
    (json_location c.args.self.now.lines c.args.offset) _ _ c.in_err-push_bytes.field-0.0 refl
    c.from_residual.ensures.1 c.in_err-push_bytes.ensures.text

pub returns-clause-text : goal.returns-clause-text
returns-clause-text g c =
    appended_twice c.args.out.now c.push_bytes.new.self c.push_json_location.new.self _ _ _ c.args.key.now
    (json_location c.args.self.now.lines c.args.offset) tt c.push_json_location.result c.in_ok-push_bytes.ensures.text
    (same_bytes c.push_bytes.new.self c.push_json_location.new.self _ _ _ _ c.push_json_location.result
    (ap₂ (json_located c.args.offset) c.requires.line c.requires.column) c.push_json_location.ensures.text)
