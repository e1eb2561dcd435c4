use Rattle.std.proofs.Common.{ℕ, ◌≤◌, ◌-◌, List, length}
use Rattle.ly_ere.proofs.StringLemmas.{IsSoFar}
use Rattle.ly_ere.proofs.quoted.quoted_length.Given as goal

-- some bytes were read
abbrev pub invariant-loop-length : goal.invariant-loop-length
invariant-loop-length l = record {
  within : l.at ≤ length l.behind;
  read : (so_far : List ℕ) × IsSoFar l.behind l.at so_far;
}

abbrev pub decreases-loop-length : goal.decreases-loop-length
decreases-loop-length l = length l.behind - l.at
