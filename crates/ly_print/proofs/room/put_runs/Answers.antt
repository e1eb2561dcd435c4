use Rattle.std.proofs.Common.{◌∙◌, ◌+◌, ◌-◌, ◌++◌, ap, arith, drop, get_or, length, take}
use Rattle.ly_base.specs.Bytes.{double_quote}
use Rattle.ly_print.specs.Text.{escaped, escaped_byte}
use Rattle.ly_print.proofs.TextLemmas.{next_behind, run_behind}
use Rattle.ly_print.proofs.room.put_runs.Goals as goal

pub loop-done-preserved : goal.loop-done-preserved
loop-done-preserved c =
    let now = c.loop-done in
    let one = c.put_one-end in
    let run = c.put_plain-run in
    let before = take c.args.at c.args.room.now in
    let bytes = c.args.bytes.now in
    let behind = now.done + 1 in record {
      within = omega (arith, now.invariant.within, one.ensures.within);
      some = omega (arith, run.ensures.most, c.loop-done-test.true);
      so_far = run.ensures.bytes
          ∙ ap (λ t. t ++ escaped double_quote (take run.result (take (length bytes - behind) (drop behind bytes))))
          (one.ensures.byte
          ∙ ap (λ t. t ++ escaped_byte double_quote (get_or bytes now.done 0)) now.invariant.so_far
          ∙ next_behind (escaped_byte double_quote) before bytes now.done
          (omega (arith, c.loop-done-test.true, c.requires.within)))
          ∙ run_behind (escaped_byte double_quote) before bytes behind run.result;
      same = run.ensures.room ∙ one.ensures.room ∙ now.invariant.same;
    }
