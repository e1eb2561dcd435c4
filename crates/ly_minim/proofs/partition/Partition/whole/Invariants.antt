use Rattle.std.proofs.Common.{[], ◌≡◌, ◌<◌, ℕ, length, get_or}
use Rattle.ly_minim.proofs.partition.Partition.whole.Given as goal

-- the states before this one stand at their own places, and there is no block yet
abbrev pub invariant-loop-state : goal.invariant-loop-state
invariant-loop-state l = record {
  states_count : length l.partition.states.items ≡ l.state;
  place_count : length l.partition.place.items ≡ l.state;
  of_count : length l.partition.of.items ≡ l.state;
  state_at : (i : ℕ) → i < l.state → get_or l.partition.states.items i 0 ≡ i;
  place_at : (i : ℕ) → i < l.state → get_or l.partition.place.items i 0 ≡ i;
  of_at : (i : ℕ) → i < l.state → get_or l.partition.of.items i 0 ≡ 0;
  first : l.partition.first.items ≡ [];
  middle : l.partition.middle.items ≡ [];
  end : l.partition.end.items ≡ [];
}
