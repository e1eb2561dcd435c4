use Rattle.std.proofs.Common.{◌≡◌, ◌≢◌, ◌<◌, ◌≤◌, ℕ, suc, length}
use Rattle.ly_lr0.specs.Private.Shared.{move_at}
use Rattle.ly_lr0.proofs.found.shared_moves.Given as goal

-- the moves before this one are the same, and so where a symbol's begin
abbrev pub invariant-loop-end : goal.invariant-loop-end
invariant-loop-end l = record {
  within : l.end ≤ length l.moves;
  before_within : l.end ≤ length l.before;
  same : (j : ℕ) → j < l.end → move_at l.moves j ≡ move_at l.before j;
  low : 0 < l.at → l.at < l.end;
  begins : (j : ℕ) → suc j ≡ l.at → (move_at l.moves j).symbol ≢ (move_at l.moves l.at).symbol;
}
