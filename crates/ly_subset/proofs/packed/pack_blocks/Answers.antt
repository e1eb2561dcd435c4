use Rattle.std.proofs.Common.{◌∙◌, ◌∷◌, ◌++◌, [], ◌+◌, drop, ap, arith}
use Rattle.ly_subset.specs.Private.Packed.{packed_with}
use Rattle.ly_subset.proofs.PackedLemmas.{packed_all, packed_first, packed_rest}
use Rattle.ly_subset.proofs.packed.pack_blocks.Goals as goal

pub loop-number-init : goal.loop-number-init
loop-number-init c = packed_first c.args.numbers.now c.in-Some.first.now c.push.new.self.items c.in-Some.ensures.value
    (c.in_ok-push.ensures.items ∙ ap (λ ns. ns ++ 0 ∷ []) c.new-row.ensures.items)

pub loop-number-preserved : goal.loop-number-preserved
loop-number-preserved c = c.in_ok-add.ensures (drop (c.loop-number.number-index + 1) c.args.numbers.now)
    ∙ ap (packed_with c.loop-number.packing)
    (packed_rest c.args.numbers.now c.loop-number.number-index c.loop-number-test.true) ∙ c.loop-number.invariant

pub returns : goal.returns
returns c = packed_all c.args.numbers.now c.loop-number.number-index c.loop-number.packing
    c.push-2.new.self.items c.push-3.new.self.items (λ l. omega (arith, l, c.loop-number-test.false))
    c.in_ok-push-2.ensures.items c.in_ok-push-3.ensures.items c.loop-number.invariant
