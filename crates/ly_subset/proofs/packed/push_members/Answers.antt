use Rattle.std.proofs.Common.{◌∙◌, ap, arith}
use Rattle.ly_subset.proofs.PackedLemmas.{is_off, is_set, member_fits, one_more_member, no_more_member}
use Rattle.ly_subset.proofs.packed.push_members.Goals.{then-bits-bit-eq1+in_ok-push, else-bits-bit-eq1}
use Rattle.ly_subset.proofs.packed.push_members.Goals as goal

pub overflow_mul-block : goal.overflow_mul-block
overflow_mul-block c = let fits = member_fits c.args.block c.args.bits c.loop-bit.bit c.requires c.loop-bit-test.true
    (is_set c.args.bits c.loop-bit.bit c.if-bits-bit-eq1.true) in omega (arith, fits)

pub overflow_add-block : goal.overflow_add-block
overflow_add-block c = let fits = member_fits c.args.block c.args.bits c.loop-bit.bit c.requires c.loop-bit-test.true
    (is_set c.args.bits c.loop-bit.bit c.if-bits-bit-eq1.true) in omega (arith, fits)

pub loop-bit-preserved : goal.loop-bit-preserved
loop-bit-preserved c = elim c.if-bits-bit-eq1.branch [
  | then-bits-bit-eq1+in_ok-push w ↦ one_more_member c.args.block c.args.bits c.loop-bit.bit c.args.numbers.now.items
      c.loop-bit.numbers.items c.if-bits-bit-eq1.numbers.items c.loop-bit.invariant
      (is_set c.args.bits c.loop-bit.bit w.if-bits-bit-eq1.true)
      (ap (λ v. v.items) w.numbers-is ∙ w.in_ok-push.ensures.items)
  | else-bits-bit-eq1 w ↦ no_more_member c.args.block c.args.bits c.loop-bit.bit c.args.numbers.now.items
      c.loop-bit.numbers.items c.if-bits-bit-eq1.numbers.items c.loop-bit.invariant
      (is_off c.args.bits c.loop-bit.bit w.if-bits-bit-eq1.false) (ap (λ v. v.items) w.numbers-is)
]
