use Rattle.std.proofs.Common.{arith}
use Rattle.ly_ere.proofs.NextElementLemmas.{escape_next}
use Rattle.ly_ere.proofs.element.escaped.Goals as goal

pub returns-clause-element : goal.returns-clause-element
returns-clause-element c = escape_next c.args.text.now c.requires.some c.in_ok-byte.byte c.in_ok-byte.length c.of.result
    (omega (arith, c.in_ok-byte.ensures.first), c.in_ok-byte.ensures.within) c.requires.backslash c.of.ensures
    c.in_ok-byte.ensures.escape
