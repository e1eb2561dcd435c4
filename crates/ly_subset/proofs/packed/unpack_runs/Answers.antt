use Rattle.std.proofs.Common.{◌≡◌, ◌+◌, ◌*◌, ◌++◌, arith, drop, subst}
use Rattle.ly_subset.specs.Private.Packed.{AreWords, run_of, unpack_by}
use Rattle.ly_subset.proofs.PackedLemmas.{unpacked_all, unpacked_more}
use Rattle.ly_subset.proofs.packed.unpack_runs.Goals as goal

pub loop-pair-preserved : goal.loop-pair-preserved
loop-pair-preserved c =
    let l = c.loop-pair-test.true in
    let next : 2 * c.loop-pair.pair + 2 ≡ 2 * (c.loop-pair.pair + 1) = omega arith in
    subst (λ at. (c.push_run.new.numbers.items ++ unpack_by run_of (drop at c.args.row.now)
    ≡ unpack_by run_of c.args.row.now) × AreWords (unpack_by run_of (drop at c.args.row.now))) next
    (unpacked_more run_of c.args.row.now (2 * c.loop-pair.pair) c.loop-pair.numbers.items
    c.push_run.new.numbers.items (omega (arith, l)) c.in_ok-push_run.ensures c.loop-pair.invariant)

pub returns : goal.returns
returns c = unpacked_all run_of c.args.row.now (2 * c.loop-pair.pair) c.loop-pair.numbers.items
    (λ l. omega (arith, l, c.loop-pair-test.false)) c.loop-pair.invariant.0
