use Rattle.std.proofs.Common.{◌≡◌, ◌≢◌, ◌<◌, ◌≤◌, ℕ, length, slice_index}
use Rattle.ly_pack.proofs.tally.clear.Given as goal

abbrev pub invariant-loop-rule : goal.invariant-loop-rule
invariant-loop-rule l = (p : ℕ) → slice_index l.counts p ≢ 0
    → (j : ℕ) × (l.rule-index ≤ j) × (j < length l.rules) × (slice_index l.rules j ≡ p)
