use Rattle.std.proofs.Common.{◌≡◌, ◌≤◌, ◌+◌, ◌*◌, ◌-◌, length}
use Rattle.ly_position.specs.Nfa.{IsRoomFor}
use Rattle.ly_subset.specs.Private.Found.{IsFound}
use Rattle.ly_subset.proofs.construct.rows.Given as goal

-- the rows of the states before this one are there
abbrev pub invariant-loop-state : goal.invariant-loop-state
invariant-loop-state l = record {
  room : IsRoomFor l.nfa l.into;
  found : IsFound l.nfa l.least l.found;
  state : l.state ≤ length l.found.keys;
  at : length l.found.entries.items ≡ l.found.starts + l.state * length l.least;
  starts : l.found.starts ≡ l.initial.found.starts;
  limit : l.found.limit ≡ l.initial.found.limit;
}

abbrev pub decreases-loop-state : goal.decreases-loop-state
decreases-loop-state l = l.found.limit - l.state
