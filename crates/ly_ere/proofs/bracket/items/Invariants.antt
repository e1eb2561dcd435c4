use Rattle.std.proofs.Common.{◌≤◌, ◌-◌, length}
use Rattle.ly_ere.proofs.ReadItemLemmas.{AreSoFar}
use Rattle.ly_ere.proofs.bracket.items.Given as goal

abbrev pub invariant-loop-set : goal.invariant-loop-set
invariant-loop-set l = record {
  within : l.at ≤ length l.text;
  items : AreSoFar l.text l.at l.set;
}

abbrev pub decreases-loop-set : goal.decreases-loop-set
decreases-loop-set l = length l.text - l.at
