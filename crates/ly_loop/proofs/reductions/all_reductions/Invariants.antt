use Rattle.std.proofs.Common.{◌≡◌, ◌+◌, ℕ, Some, length, slice_get}
use Rattle.std.specs.Global.{Vec}
use Rattle.ly_base.specs.declared.numbers.RuleNo.{RuleNo}
use Rattle.ly_loop.specs.Private.Reductions.{AreReductions}
use Rattle.ly_loop.proofs.reductions.all_reductions.Given as goal

-- a row for each state so far
abbrev pub invariant-loop-state : goal.invariant-loop-state
invariant-loop-state g l = record {
  count : length l.rows.items ≡ l.state;
  each : (state : ℕ) (row : Vec RuleNo) → slice_get l.rows.items state ≡ Some row
      → AreReductions l.machine state row.items;
  room : l.seen.below ≡ length l.machine.rules + 1;
}
