use Rattle.std.proofs.Common.{◌∙◌, ◌∷◌, ◌++◌, [], ◌+◌, drop, ap, arith}
use Rattle.ly_subset.specs.Private.Packed.{run_with}
use Rattle.ly_subset.proofs.PackedLemmas.{packed_rest, running_all, running_first}
use Rattle.ly_subset.proofs.packed.pack_runs.Goals as goal

pub loop-at-init : goal.loop-at-init
loop-at-init c = running_first c.args.numbers.now c.in-Some.first.now c.push.new.self.items c.in-Some.ensures.value
    (c.in_ok-push.ensures.items ∙ ap (λ ns. ns ++ 1 ∷ []) c.new-row.ensures.items)

pub loop-at-preserved : goal.loop-at-preserved
loop-at-preserved c = c.in_ok-add.ensures (drop (c.loop-at.at + 1) c.args.numbers.now)
    ∙ ap (run_with c.loop-at.running) (packed_rest c.args.numbers.now c.loop-at.at c.loop-at-test.true)
    ∙ c.loop-at.invariant

pub returns : goal.returns
returns c = running_all c.args.numbers.now c.loop-at.at c.loop-at.running
    c.push-2.new.self.items c.push-3.new.self.items (λ l. omega (arith, l, c.loop-at-test.false))
    c.in_ok-push-2.ensures.items c.in_ok-push-3.ensures.items c.loop-at.invariant
