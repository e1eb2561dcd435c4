use Rattle.std.proofs.Common.{◌+◌, ap, arith, drop-drop, length, length-drop}
use Rattle.ly_base.proofs.EscapeLemmas.{whole_slice}
use Rattle.ly_ere.proofs.NextElementLemmas.{string_next}
use Rattle.ly_ere.proofs.element.string.Goals as goal

pub returns-in-Ok-clause-element : goal.returns-in-Ok-clause-element
returns-in-Ok-clause-element c =
    let text = c.args.text.now in
    let n = c.in-Ok.length in
    let found = rw (whole_slice, drop-drop) at c.in-Ok.ensures.quoted in
    let front = c.in-Ok.ensures.front in
    string_next text c.requires.some found.0 (1 + n) _
    (omega arith, omega (arith, front.1, ap length (whole_slice 1 text), length-drop 1 text)) c.requires.quote
    (whole_slice 1 text) found.1
