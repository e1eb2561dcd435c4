use Rattle.std.proofs.Common.{arith}
use Rattle.ly_subset.proofs.PackedLemmas.{run_ended, run_grown}
use Rattle.ly_subset.proofs.packed.push_run.Goals as goal

pub loop-number-preserved : goal.loop-number-preserved
loop-number-preserved c = (
  let l = c.loop-number-test.true in let end = c.from-number-end.ensures in let few = c.loop-number.invariant.0 in
      omega (arith, l, end, few),
  run_grown c.args.first c.loop-number.number c.args.numbers.now.items c.loop-number.numbers.items
      c.push.new.self.items
      (let from = c.loop-number.auto.number in let first = c.from-number.ensures in omega (arith, from, first))
      c.loop-number.invariant.1 c.in_ok-push.ensures.items,
)

pub returns : goal.returns
returns c = run_ended c.args.first c.args.last c.loop-number.number c.args.numbers.now.items c.loop-number.numbers.items
    (let past = c.loop-number-test.false in let end = c.from-number-end.ensures in omega (arith, past, end))
    c.loop-number.invariant.0 c.loop-number.invariant.1
