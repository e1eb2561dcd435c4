use Rattle.std.proofs.Common.{◌≡◌, ◌<◌, ◌≤◌, ◌+◌, ◌*◌, length}
use Rattle.ly_position.specs.Nfa.{IsRoomFor}
use Rattle.ly_subset.specs.Private.Found.{IsFound}
use Rattle.ly_subset.specs.Private.Members.{listed}
use Rattle.ly_subset.specs.Subsets.{set_at}
use Rattle.ly_subset.proofs.construct.SetSteps.row.Given as goal

-- the entries of the classes before this one are there
abbrev pub invariant-loop-byte : goal.invariant-loop-byte
invariant-loop-byte l = record {
  room : IsRoomFor l.self.nfa.now l.into;
  found : IsFound l.self.nfa.now l.self.least.now l.found;
  state : l.state < length l.found.keys;
  from : listed l.from ≡ set_at l.initial.found.keys l.state;
  kept : set_at l.found.keys l.state ≡ set_at l.initial.found.keys l.state;
  at : length l.found.entries.items ≡ l.found.starts + (l.state * length l.self.least.now + l.byte-index);
  longer : length l.initial.found.keys ≤ length l.found.keys;
  starts : l.found.starts ≡ l.initial.found.starts;
  limit : l.found.limit ≡ l.initial.found.limit;
}
