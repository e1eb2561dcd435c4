use Rattle.std.proofs.Common.{◌≡◌, ◌<◌, [], ℕ, length, get_or}
use Rattle.ly_position.specs.Private.Targets.{IsEnteredList}
use Rattle.ly_position.proofs.starts.followed.Given as goal

abbrev pub invariant-loop-number : goal.invariant-loop-number
invariant-loop-number l = record {
  positions : l.set.positions.below ≡ length l.linked.slots.items;
  forks : l.set.forks.below ≡ length l.linked.forks.items;
  count : length l.lists ≡ l.number;
  each : (k : ℕ) → k < l.number
      → IsEnteredList l.linked.targets.items l.linked.forks.items (get_or l.roots k []) (get_or l.lists k []);
}
