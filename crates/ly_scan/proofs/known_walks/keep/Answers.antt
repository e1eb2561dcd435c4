use Rattle.std.proofs.Common.{◌∙◌, ◌-◌, ap, subst, sym}
use Rattle.std.specs.Prelude.{slice_index_or}
use Rattle.ly_scan.proofs.KnownWalkLemmas.{found_from}
use Rattle.ly_scan.specs.KnownWalks.{AreKnown, IsFound, last}
use Rattle.ly_scan.specs.Private.KnownWalks.{from_passed}
use Rattle.ly_scan.proofs.known_walks.keep.Goals as goal
use Rattle.ly_scan.proofs.known_walks.keep.Goals.{else-taken-passed, then-taken-passed}

pub loop-stand-init : goal.loop-stand-init
loop-stand-init c = λ walk ahead ended text size is trail known. c.make_room.ensures ahead ended text known

pub loop-stand-preserved : goal.loop-stand-preserved
loop-stand-preserved c = λ walk ahead ended text size is trail known.
    let so_far = c.loop-stand.invariant walk ahead ended text size is trail known in
    elim c.if-taken-passed.branch [
      | then-taken-passed w ↦
          let stand = slice_index_or c.args.trail.now c.loop-stand.stand-index (0, 0) in
          subst (λ f. AreKnown ahead ended text f.entries) (sym w.found-is)
          (w.keep_one.ensures ahead ended text
          (subst (λ o. IsFound (ahead stand.0) ended (last stand.1 text) o)
          (sym (w.from_passed.ensures ∙ ap (from_passed c.args.longest)
          (c.saturating_sub-passed.ensures ∙ ap (λ n. n - stand.1) size)))
          (found_from walk ahead ended text stand c.args.longest is
          (trail c.loop-stand.stand-index (0, 0) c.loop-stand-test.true)))
          so_far)
      | else-taken-passed w ↦ subst (λ f. AreKnown ahead ended text f.entries) (sym w.found-is) so_far
    ]

pub returns : goal.returns
returns c = c.loop-stand.invariant
