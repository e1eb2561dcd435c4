use Rattle.ly_ere.proofs.NextElementLemmas.{bracket_next}
use Rattle.ly_ere.proofs.element.list.Goals as goal

pub returns-in-Ok-clause-element : goal.returns-in-Ok-clause-element
returns-in-Ok-clause-element c
    = bracket_next c.args.text.now c.requires.some c.in-Ok.length c.in-Ok.set c.in-Ok.ensures.front
    c.requires.opening c.in-Ok.ensures.set c.in-Ok.ensures.listed
