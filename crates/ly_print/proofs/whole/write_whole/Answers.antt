use Rattle.std.proofs.Common.{arith, ◌∙◌}
use Rattle.std.proofs.lemmas.Grind.{common_steps}
use Rattle.ly_print.proofs.DeviceLemmas.{appends_next, not_counted}
use Rattle.ly_print.proofs.whole.write_whole.Goals as goal

pub loop-written-preserved : goal.loop-written-preserved
loop-written-preserved g c = record {
  within = grind (arith, common_steps);
  gone = appends_next _ _ _ c.loop-written.written c.in-Ok.n c.args.bytes.now c.loop-written.invariant.gone
      c.in-Ok.ensures.bytes;
  counted = not_counted c.in-Ok.n _ _ _ c.if-n-gt0.true c.in-Ok.ensures.counted ∙ c.loop-written.invariant.counted;
}
