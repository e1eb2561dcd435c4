use Rattle.std.proofs.Common.{◌∙◌, ◌+◌, ◌-◌, ◌++◌, ap, arith, drop, get_or, length, take}
use Rattle.ly_print.specs.Json.{string_body, string_byte}
use Rattle.ly_print.proofs.BlockLemmas.{as_string}
use Rattle.ly_print.proofs.TextLemmas.{next_behind, run_behind}
use Rattle.ly_print.proofs.json.put_string_body.Goals as goal

pub loop-done-preserved-then-done-count : goal.loop-done-preserved-then-done-count
loop-done-preserved-then-done-count c =
    let now = c.loop-done in
    let run = c.put_plain-run in
    let before = take c.args.at c.args.room.now in
    let bytes = c.args.bytes.now in
    let rest = take (length bytes - now.done) (drop now.done bytes) in record {
      within = omega (arith, c.put_string_byte-end.ensures.within, now.invariant.within);
      some = omega (arith, c.if-done-count.true);
      so_far = c.put_string_byte-end.ensures.bytes
          ∙ ap (λ t. t ++ string_byte (get_or bytes (now.done + run.result) 0)) (run.ensures.bytes
          ∙ ap (λ t. take now.end now.room ++ t) (as_string rest run.result run.ensures.plain)
          ∙ ap (λ t. t ++ string_body (take run.result rest)) now.invariant.so_far
          ∙ run_behind string_byte before bytes now.done run.result)
          ∙ next_behind string_byte before bytes (now.done + run.result)
          (omega (arith, c.if-done-count.true, c.requires.within));
      same = c.put_string_byte-end.ensures.room ∙ run.ensures.room ∙ now.invariant.same;
    }

pub loop-done-preserved : goal.loop-done-preserved
loop-done-preserved c =
    let now = c.loop-done in
    let run = c.put_plain-run in
    let bytes = c.args.bytes.now in
    let rest = take (length bytes - now.done) (drop now.done bytes) in record {
      within = omega (arith, now.invariant.within);
      some = omega (arith, run.ensures.most, c.loop-done-test.true);
      so_far = run.ensures.bytes
          ∙ ap (λ t. take now.end now.room ++ t) (as_string rest run.result run.ensures.plain)
          ∙ ap (λ t. t ++ string_body (take run.result rest)) now.invariant.so_far
          ∙ run_behind string_byte (take c.args.at c.args.room.now) bytes now.done run.result;
      same = run.ensures.room ∙ now.invariant.same;
    }
