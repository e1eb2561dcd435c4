use Rattle.std.proofs.Common.{◌≡◌, ◌<◌, ◌+◌}
use Rattle.ly_subset.specs.Private.Packed.{breaks_of}
use Rattle.ly_subset.proofs.PackedLemmas.{breaks_at}
use Rattle.ly_subset.proofs.packed.breaks.Given as goal

-- the breaks before this number are counted
abbrev pub invariant-loop-at : goal.invariant-loop-at
invariant-loop-at l = (l.count < l.at) × (l.count + breaks_at l.numbers l.at ≡ breaks_of l.numbers)
