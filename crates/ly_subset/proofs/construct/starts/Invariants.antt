use Rattle.std.proofs.Common.{◌≡◌, ◌*◌, ℕ, List, length}
use Rattle.ly_position.specs.Nfa.{IsRoomFor}
use Rattle.ly_subset.specs.Private.Found.{IsFound}
use Rattle.ly_subset.proofs.construct.starts.Given as goal

-- the starts of the conditions before this one are there
abbrev pub invariant-loop-condition : goal.invariant-loop-condition
invariant-loop-condition l = record {
  room : IsRoomFor l.nfa l.set;
  found : (least : List ℕ) → IsFound l.nfa least l.found;
  at : length l.found.entries.items ≡ 2 * l.condition;
  starts : l.found.starts ≡ l.initial.found.starts;
  limit : l.found.limit ≡ l.initial.found.limit;
}
