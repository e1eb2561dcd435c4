use Rattle.std.proofs.Common.{◌≡◌, ◌<◌, ◌≤◌, ◌-◌, ℕ, length, slice_index_or}
use Rattle.ly_lr0.specs.declared.item.Move.{Move}
use Rattle.ly_lr0.proofs.found.group_end.Given as goal

-- the moves before this place are over the symbol
abbrev pub invariant-loop-end : goal.invariant-loop-end
invariant-loop-end l = record {
  behind : l.at < l.end;
  within : l.end ≤ length l.moves;
  symbol : (d : Move) → (slice_index_or l.moves l.at d).symbol ≡ l.symbol;
  same : (k : ℕ) (d : Move) → l.at ≤ k → k < l.end → (slice_index_or l.moves k d).symbol ≡ l.symbol;
}

abbrev pub decreases-loop-end : goal.decreases-loop-end
decreases-loop-end l = length l.moves - l.end
