use Rattle.std.proofs.Common.{◌≤◌, ◌-◌, length}
use Rattle.ly_scan.proofs.WalkLemmas.{IsBehind}
use Rattle.ly_scan.proofs.matching.walk_on.Given as goal

-- the walk stands behind the bytes so far
abbrev pub invariant-loop-passed : goal.invariant-loop-passed
invariant-loop-passed g l = let steps = g.S.Steps in record {
  within : l.passed ≤ length l.bytes;
  behind : IsBehind (steps.ahead l.steps l.fn.start) (steps.ahead l.steps l.at) (steps.stands l.steps l.at) l.bytes
      l.passed;
}

abbrev pub decreases-loop-passed : goal.decreases-loop-passed
decreases-loop-passed g l = length l.bytes - l.passed

-- likewise
abbrev pub invariant-loop-passed-2 : goal.invariant-loop-passed-2
invariant-loop-passed-2 g l = let steps = g.S.Steps in record {
  within : l.passed ≤ length l.bytes;
  behind : IsBehind (steps.ahead l.steps l.fn.start) (steps.ahead l.steps l.at) (steps.stands l.steps l.at) l.bytes
      l.passed;
}

abbrev pub decreases-loop-passed-2 : goal.decreases-loop-passed-2
decreases-loop-passed-2 g l = length l.bytes - l.passed
