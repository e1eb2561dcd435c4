use Rattle.std.proofs.Common.{arith}
use Rattle.ly_yaccread.proofs.PlaceLemmas.{next_so_far}
use Rattle.ly_yaccread.proofs.place.decimal.Goals as goal

pub returns-in_err-checked_mul : goal.returns-in_err-checked_mul
returns-in_err-checked_mul c = rw c.from_residual.ensures (λ k n.
    let more = next_so_far c.args.digits.now c.loop-digit.value c.loop-digit.digit-index c.loop-digit.invariant
    (omega arith) k in
    c.in_err-checked_mul.ensures (omega arith))

pub returns-in_err-value : goal.returns-in_err-value
returns-in_err-value c = rw c.from_residual-in_err-value.ensures (λ k n.
    let more = next_so_far c.args.digits.now c.loop-digit.value c.loop-digit.digit-index c.loop-digit.invariant
    (omega arith) k in
    c.in_err-value.ensures (omega (arith, c.in_ok-checked_mul.ensures, c.from.ensures)))
