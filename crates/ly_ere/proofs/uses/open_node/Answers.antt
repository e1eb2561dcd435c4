use Rattle.std.proofs.Common.{ap, append_assoc, arith, refl}
use Rattle.ly_ere.specs.Private.Uses.{size_of_all}
use Rattle.ly_ere.proofs.UseLemmas.{one_part, size_push, two_parts, uses_push}
use Rattle.ly_ere.proofs.uses.open_node.Goals as goal

pub returns-in_ok-push-in-Star-clause-uses : goal.returns-in_ok-push-in-Star-clause-uses
returns-in_ok-push-in-Star-clause-uses c done
    = let node = one_part done c.args.node c.in-Star.part c.in-Star.is in
    rw (c.in_ok-push-in-Star.ensures.items, uses_push done c.args.pending.now.items c.in-Star.part, node.0) refl

pub returns-in_ok-push-in-Star-clause-smaller : goal.returns-in_ok-push-in-Star-clause-smaller
returns-in_ok-push-in-Star-clause-smaller c done
    = omega (
      arith,
      (one_part done c.args.node c.in-Star.part c.in-Star.is).1,
      ap (size_of_all done) c.in_ok-push-in-Star.ensures.items,
      size_push done c.args.pending.now.items c.in-Star.part,
    )

pub returns-in_ok-push-in-Concat-2-clause-uses : goal.returns-in_ok-push-in-Concat-2-clause-uses
returns-in_ok-push-in-Concat-2-clause-uses c done =
    let node = two_parts done c.args.node c.in-Concat.first c.in-Concat.second c.in-Concat.is in
    rw (
      c.in_ok-push-in-Concat-2.ensures.items,
      uses_push done c.push-in-Concat.new.self.items c.in-Concat.first,
      c.in_ok-push-in-Concat.ensures.items,
      uses_push done c.args.pending.now.items c.in-Concat.second,
      node.0,
      append_assoc,
    ) refl

pub returns-in_ok-push-in-Concat-2-clause-smaller : goal.returns-in_ok-push-in-Concat-2-clause-smaller
returns-in_ok-push-in-Concat-2-clause-smaller c done
    = omega (
      arith,
      (two_parts done c.args.node c.in-Concat.first c.in-Concat.second c.in-Concat.is).1,
      ap (size_of_all done) c.in_ok-push-in-Concat-2.ensures.items,
      size_push done c.push-in-Concat.new.self.items c.in-Concat.first,
      ap (size_of_all done) c.in_ok-push-in-Concat.ensures.items,
      size_push done c.args.pending.now.items c.in-Concat.second,
    )
