use Rattle.std.proofs.Common.{◌≡◌, ◌<◌, ◌≤◌, ◌-◌, Some, length}
use Rattle.std.specs.Prelude.{slice_get}
use Rattle.ly_resolve.specs.Private.Conflicts.{start_from}
use Rattle.ly_resolve.specs.declared.conflicts.Run.{Run}
use Rattle.ly_resolve.proofs.conflicts.place_of.Given as goal

-- runs before the low end end before the index, and one at the high end behind it
abbrev pub invariant-loop-low : goal.invariant-loop-low
invariant-loop-low l = record {
  ends : l.low ≤ l.high;
  within : l.high ≤ length l.runs;
  before : start_from 0 l.runs l.low ≤ l.index;
  behind : (r : Run) → slice_get l.runs l.high ≡ Some r → l.index < r.end;
}

abbrev pub decreases-loop-low : goal.decreases-loop-low
decreases-loop-low l = l.high - l.low
