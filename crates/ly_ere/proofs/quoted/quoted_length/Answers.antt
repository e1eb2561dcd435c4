use Rattle.std.proofs.Common.{[], ◌∷◌, ◌++◌, length, length-drop, ap, arith}
use Rattle.ly_base.proofs.EscapeLemmas.{whole_slice}
use Rattle.ly_ere.proofs.StringLemmas.{one_more, quoted_so_far}
use Rattle.ly_ere.proofs.quoted.quoted_length.Goals as goal

pub loop-length-preserved : goal.loop-length-preserved
loop-length-preserved c =
    let now = c.loop-length in
    let taken = rw c.in-Some.is at c.in_ok-length.ensures.front in
    let part = rw (c.in-Some.is, whole_slice) at c.in_ok-length.ensures.byte in
    record {
      within = omega (
        arith,
        taken.1,
        ap length (whole_slice now.at c.args.behind.now),
        length-drop now.at c.args.behind.now,
        now.invariant.within,
      );
      read = (
        now.invariant.read.0 ++ c.in-Some.field-0-0 ∷ [],
        one_more now.invariant.read.1 c.in-Some.field-0-0 c.in-Some.length part,
      );
    }

pub returns-clause-quoted : goal.returns-clause-quoted
returns-clause-quoted c = let now = c.loop-length
    in (
      now.invariant.read.0,
      quoted_so_far now.invariant.read.1
          (rw (c.in_default.is, whole_slice) at c.in_ok-length.ensures.end),
    )
