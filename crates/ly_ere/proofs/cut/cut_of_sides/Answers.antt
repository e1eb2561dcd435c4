use Rattle.std.proofs.Common.{arith, subst, ◌<◌}
use Rattle.ly_ere.specs.Lengths.{far}
use Rattle.ly_ere.specs.Private.Cuts.{IsSoundTail}
use Rattle.ly_ere.specs.Private.Sides.{sides_read}
use Rattle.ly_ere.proofs.CutOfLemmas.{told, untold}
use Rattle.ly_ere.proofs.cut.cut_of_sides.Goals as goal

pub returns-in-Ok-clause-ok : goal.returns-in-Ok-clause-ok
returns-in-Ok-clause-ok c =
    let sound = subst (IsSoundTail _) c.in-Some.is c.requires.1 in
    told c.args.names.now (sides_read c.args.sides.now) c.in-Some.tail c.in-Some.is
    c.in_ok-head_lengths.head_lengths c.in_ok-tail_lengths.tail_lengths
    (c.in_ok-head_lengths.ensures c.requires.0) (c.in_ok-tail_lengths.ensures sound) c.in-Ok.cut c.in-Ok.ensures.ok

pub returns-in-Err-clause-refused : goal.returns-in-Err-clause-refused
returns-in-Err-clause-refused c =
    let sound = subst (IsSoundTail _) c.in-Some.is c.requires.1 in
    let less : c.args.most < far = omega (arith, c.ranges.most.fits) in
    untold c.args.names.now (sides_read c.args.sides.now) c.in-Some.tail c.in-Some.is
    c.in_ok-head_lengths.head_lengths c.in_ok-tail_lengths.tail_lengths
    (c.in_ok-head_lengths.ensures c.requires.0) (c.in_ok-tail_lengths.ensures sound)
    c.args.most less c.in-Err.kind c.offset_of.result c.in-Err.ensures.refused
