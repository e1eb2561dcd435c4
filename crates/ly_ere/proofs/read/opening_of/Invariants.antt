use Rattle.std.proofs.Common.{◌≤◌, ◌-◌, length}
use Rattle.ly_ere.proofs.read.opening_of.Given as goal

abbrev pub invariant-loop-element : goal.invariant-loop-element
invariant-loop-element l = record {
  within : l.at ≤ length l.line;
  before : l.opening ≤ l.at;
}

abbrev pub decreases-loop-element : goal.decreases-loop-element
decreases-loop-element l = length l.line - l.at
