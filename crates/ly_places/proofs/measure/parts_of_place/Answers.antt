use Rattle.std.proofs.Common.{arith}
use Rattle.ly_places.proofs.MeasureLemmas.{parts_at_none, parts_at_past, parts_at_there}
use Rattle.ly_places.proofs.measure.parts_of_place.Goals as goal

pub returns-in_default : goal.returns-in_default
returns-in_default c = parts_at_none c.args.body.now c.args.place (omega (arith, c.in_default.ensures))

pub returns-in-Some-get : goal.returns-in-Some-get
returns-in-Some-get c =
    parts_at_there c.args.body.now c.in-Some.before c.args.place c.in-Some-get.measure.now
    (omega (arith, c.in-Some.ensures)) c.in-Some-get.ensures.lookup.3.0 c.in-Some-get.ensures.lookup.1

pub returns-in-None : goal.returns-in-None
returns-in-None c =
    parts_at_past c.args.body.now c.in-Some.before c.args.place (omega (arith, c.in-Some.ensures))
    c.in-None.ensures.lookup.3
