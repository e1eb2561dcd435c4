use Rattle.std.proofs.Common.{◌≡◌, ◌⊎◌, ◌≤◌, ◌+◌, ◌-◌, ℕ, length}
use Rattle.ly_pack.specs.Private.Placing.{slot_at}
use Rattle.ly_pack.proofs.placing.Placing.take.Given as goal

abbrev pub invariant-loop-slot : goal.invariant-loop-slot
invariant-loop-slot g l = record {
  bits : l.self.used ≡ l.initial.self.used;
  same : (k : ℕ) → slot_at l.self.slots.items k ≡ slot_at l.initial.self.slots.items k;
  few : (length l.self.slots.items ≡ length l.initial.self.slots.items) ⊎ (length l.self.slots.items ≤ l.place + 1);
  grows : length l.initial.self.slots.items ≤ length l.self.slots.items;
}

abbrev pub decreases-loop-slot : goal.decreases-loop-slot
decreases-loop-slot g l = l.place + 1 - length l.self.slots.items
