use Rattle.std.proofs.Common.{◌∙◌, ◌++◌, ◌-◌, ap, arith, drop, length, take}
use Rattle.ly_print.specs.Json.{string_body, string_byte}
use Rattle.ly_print.proofs.TextLemmas.{run_behind}
use Rattle.ly_print.proofs.json.push_string_body.Goals as goal

pub loop-done-preserved : goal.loop-done-preserved
loop-done-preserved c =
    let now = c.loop-done in
    let bytes = c.args.bytes.now in
    let count = c.min-count.result in
    let rest = take (length bytes - now.done) (drop now.done bytes) in record {
      some = omega (arith, c.min-count.ensures, c.loop-done-test.true);
      so_far = c.in_ok-extend_from_slice.ensures.items
          ∙ ap (λ t. now.out.items ++ t) c.put_string_body-end.ensures.bytes
          ∙ ap (λ t. t ++ string_body (take count rest)) now.invariant.so_far
          ∙ run_behind string_byte c.args.out.now.items bytes now.done count;
    }
