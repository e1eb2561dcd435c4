use Rattle.std.proofs.Common.{◌<◌, ◌^◌, arith}
use Rattle.ly_listing.proofs.SpotLemmas.{last_digit, some_digits}
use Rattle.ly_listing.proofs.decimal.Decimal.set.Goals as goal

pub overflow_sub-self : goal.overflow_sub-self
overflow_sub-self c = some_digits c.self.inside.digits c.self.inside.count c.self.inside.value
    (omega (arith, c.self.ranges))
    c.self.invariant.0

pub invariant_of-self : goal.invariant_of-self
invariant_of-self c =
    let small : c.self.inside.value < 2 ^ 64 = omega (arith, c.self.ranges) in
    let some = some_digits c.self.inside.digits c.self.inside.count c.self.inside.value small c.self.invariant.0 in (
      last_digit c.self.inside.digits c.self.inside.count c.self.inside.value c.args.value
          (omega (arith, c.self.invariant.1, c.self.told)) some c.if-value-ge10.true c.if-value-self-2.true small
          c.ranges.value.fits c.self.invariant.0,
      c.self.invariant.1,
    )
