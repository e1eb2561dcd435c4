use Rattle.std.proofs.Common.{arith, ◌∷◌}
use Rattle.ly_ere.proofs.ElementLemmas.{times_one}
use Rattle.ly_ere.proofs.braced.upper_bound.Goals.{in_default-behind_byte-via-in-Some-behind_byte+else-least-most}
use Rattle.ly_ere.proofs.braced.upper_bound.Goals.{in_default-behind_byte-via-in_default-behind_byte}
use Rattle.ly_ere.proofs.braced.upper_bound.Goals as goal

pub returns-in_default-behind_byte : goal.returns-in_default-behind_byte
returns-in_default-behind_byte c = λ n rest h le.
    let one = times_one c.args.text.now c.in-Some.most n c.in-Some.behind.now (125 ∷ rest) c.in-Some.ensures h in
    elim c.in_default-behind_byte.branch [
      | in_default-behind_byte-via-in-Some-behind_byte+else-least-most w ↦
          absurd (omega (arith, one.0, le, w.if-least-most.false))
      | in_default-behind_byte-via-in_default-behind_byte w ↦ w.in_default-behind_byte.ensures rest one.1
    ]
