use Rattle.std.proofs.Common.{refl, []}
use Rattle.ly_base.specs.Gap.{none}
use Rattle.ly_base.proofs.GapLemmas.{GapBefore-trans}
use Rattle.ly_base.proofs.gap.after_gap.Goals as goal

pub loop-after-init : goal.loop-after-init
loop-after-init c = ([], none, refl)

pub loop-after-preserved : goal.loop-after-preserved
loop-after-preserved c
    = GapBefore-trans c.args.language c.args.text.now c.loop-after.rest.now c.in-Some.after.now c.loop-after.invariant
    c.in-Some.ensures.these
