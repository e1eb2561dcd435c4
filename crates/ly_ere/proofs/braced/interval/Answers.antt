use Rattle.std.proofs.Common.{refl}
use Rattle.ly_base.proofs.EscapeLemmas.{whole_slice}
use Rattle.ly_ere.proofs.BracedLemmas.{interval_next}
use Rattle.ly_ere.proofs.braced.interval.Goals as goal

pub returns-in-Some-clause-element : goal.returns-in-Some-clause-element
returns-in-Some-clause-element c
    = interval_next c.args.text.now c.requires.some c.requires.opening c.in-Some.least c.in-Some.most
    c.in-Some.rest.now _ (rw whole_slice at c.in-Some.ensures.bounds) refl
