use Rattle.std.proofs.Common.{◌≡◌, ◌+◌, ℕ, length, slice_index}
use Rattle.ly_pack.specs.Private.Tally.{HaveDefaults}
use Rattle.ly_pack.proofs.defaults.take_defaults.Given as goal

abbrev pub invariant-loop-state : goal.invariant-loop-state
invariant-loop-state l = record {
  states : length l.defaults.items ≡ l.state;
  taken : HaveDefaults l.initial.actions.width l.initial.actions l.actions l.defaults.items;
  room : length l.counts.items ≡ l.rules + 1;
  clear : (p : ℕ) → slice_index l.counts.items p ≡ 0;
}
