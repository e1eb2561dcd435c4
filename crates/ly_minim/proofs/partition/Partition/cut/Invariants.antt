use Rattle.std.proofs.Common.{◌≡◌, ◌⊎◌, ◌<◌, ◌≤◌, ℕ, length, get_or}
use Rattle.ly_minim.proofs.partition.Partition.cut.Given as goal

-- the states before this place are in the new block
abbrev pub invariant-loop-place : goal.invariant-loop-place
invariant-loop-place l = record {
  states : l.self.states.items ≡ l.initial.self.states.items;
  place : l.self.place.items ≡ l.initial.self.place.items;
  first : l.self.first.items ≡ l.initial.self.first.items;
  middle : l.self.middle.items ≡ l.initial.self.middle.items;
  end : l.self.end.items ≡ l.initial.self.end.items;
  count : length l.self.of.items ≡ length l.initial.self.of.items;
  moved : (s : ℕ) → s < length l.initial.self.of.items → l.fn.part.first ≤ get_or l.initial.self.place.items s 0
      → get_or l.initial.self.place.items s 0 < l.place → get_or l.self.of.items s 0 ≡ l.number;
  others : (s : ℕ) → s < length l.initial.self.of.items
      → (get_or l.initial.self.place.items s 0 < l.fn.part.first) ⊎ (l.place ≤ get_or l.initial.self.place.items s 0)
      → get_or l.self.of.items s 0 ≡ get_or l.initial.self.of.items s 0;
}
