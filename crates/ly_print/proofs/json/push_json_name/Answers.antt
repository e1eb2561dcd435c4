use Rattle.std.proofs.Common.{◌∙◌, ◌++◌, ap, get_or}
use Rattle.std.specs.Char.{encode_utf8}
use Rattle.ly_print.specs.Json.{string_body}
use Rattle.ly_print.proofs.JsonLemmas.{name_more}
use Rattle.ly_print.proofs.json.push_json_name.Goals as goal

pub loop-byte-preserved : goal.loop-byte-preserved
loop-byte-preserved c =
    let now = c.loop-byte in
    let name = c.args.name.now in
    c.in_ok-push_string_body.ensures
    ∙ ap (λ t. now.out.items ++ string_body t)
    (c.as_bytes.ensures.value ∙ c.encode_utf8.ensures.value ∙ ap encode_utf8 c.from.ensures)
    ∙ ap (λ t. t ++ string_body (encode_utf8 (get_or name now.byte-index 0))) now.invariant
    ∙ name_more _ name now.byte-index c.loop-byte-test.true
