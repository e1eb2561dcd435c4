use Rattle.std.proofs.Common.{◌+◌, arith}
use Rattle.ly_base.proofs.EscapeLemmas.{number_more}
use Rattle.ly_ere.proofs.NumberLemmas.{decimal_at, number_whole}
use Rattle.ly_ere.proofs.braced.number.Goals as goal

pub overflow_sub-digit : goal.overflow_sub-digit
overflow_sub-digit c = (decimal_at c.args.digits.now c.loop-digit.digit-index c.requires c.loop-digit-test.true).0

pub returns-then-number-gt255 : goal.returns-then-number-gt255
returns-then-number-gt255 c =
    let digits = c.args.digits.now in
    let at = c.loop-digit.digit-index in
    omega (
      arith,
      number_more 10 at digits c.loop-digit-test.true,
      (decimal_at digits at c.requires c.loop-digit-test.true).1,
      number_whole (at + 1) digits,
      c.loop-digit.invariant.so_far,
      c.from.ensures,
      c.if-number-gt255.true,
    )

pub loop-digit-preserved : goal.loop-digit-preserved
loop-digit-preserved c =
    let digits = c.args.digits.now in
    let at = c.loop-digit.digit-index in
    record {
      so_far = omega (
        arith,
        number_more 10 at digits c.loop-digit-test.true,
        (decimal_at digits at c.requires c.loop-digit-test.true).1,
        c.loop-digit.invariant.so_far,
        c.from.ensures,
      );
      small = omega (arith, c.if-number-gt255.false);
    }
