use Rattle.std.proofs.Common.{length}
use Rattle.ly_base.specs.Gap.{GapBefore}
use Rattle.ly_base.proofs.gap.after_gap.Given as goal

abbrev pub invariant-loop-after : goal.invariant-loop-after
invariant-loop-after l = GapBefore l.language l.text l.rest

abbrev pub decreases-loop-after : goal.decreases-loop-after
decreases-loop-after l = length l.rest
