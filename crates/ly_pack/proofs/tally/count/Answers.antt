use Rattle.std.proofs.Common.{arith, get_or}
use Rattle.ly_pack.proofs.TallyLemmas.{times_few}
use Rattle.ly_pack.proofs.tally.count.Goals as goal

pub overflow_add-counts : goal.overflow_add-counts
overflow_add-counts c = record {
  fits = omega (
    arith,
    c.loop-rule.invariant (get_or c.args.rules.now c.loop-rule.rule-index 0),
    times_few (get_or c.args.rules.now c.loop-rule.rule-index 0) c.loop-rule.rule-index c.args.rules.now,
  );
}
