use Rattle.std.proofs.Common.{◌≡◌, ◌-◌, ◌≤◌, ◌<◌, ℕ, length, true, false}
use Rattle.std.specs.Prelude.{slice_index_or}
use Rattle.ly_ere.proofs.turns.next_use.Given as goal

-- those from the first to here are taken
abbrev pub invariant-loop-at : goal.invariant-loop-at
invariant-loop-at l = record {
  behind : l.fn.from ≤ l.at;
  within : l.at ≤ length l.uses;
  passed : (k : ℕ) → l.fn.from ≤ k → k < l.at → slice_index_or l.taken (slice_index_or l.uses k 0) false ≡ true;
}

abbrev pub decreases-loop-at : goal.decreases-loop-at
decreases-loop-at l = length l.uses - l.at
