use Rattle.std.proofs.Common.{ap, arith}
use Rattle.ly_base.specs.Escapes.{number}
use Rattle.ly_base.proofs.NameLemmas.{digits_one}
use Rattle.ly_ere.proofs.braced.times.Goals as goal

pub returns-in_default-number : goal.returns-in_default-number
returns-in_default-number c = λ m rest h.
    let one = digits_one c.args.text.now c.in-Some.digits.now h.0 c.in-Some.rest.now rest c.in-Some.ensures h.1 in
    absurd (omega (arith, ap (number 10) one.0, h.2, h.3, c.in_default-number.ensures))
