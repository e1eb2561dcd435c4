use Rattle.std.proofs.Common.{◌≡◌, length}
use Rattle.ly_yaccread.specs.Private.Read.{left}
use Rattle.ly_yaccread.proofs.ActionLemmas.{PlacesGoOn}
use Rattle.ly_yaccread.proofs.action.more_places.Given as goal

abbrev pub invariant-loop-behind : goal.invariant-loop-behind
invariant-loop-behind l = record {
  same_room : l.places.below ≡ l.initial.places.below;
  goes_on : PlacesGoOn l.symbols l.initial.places.members (left l.words) l.places.members (left l.rest);
}

abbrev pub decreases-loop-behind : goal.decreases-loop-behind
decreases-loop-behind l = length (left l.rest)
