use Rattle.std.proofs.Common.{◌≡◌, ◌≤◌, ◌+◌, ◌*◌, ◌++◌, length, take, ◌-◌}
use Rattle.ly_base.specs.Bytes.{double_quote}
use Rattle.ly_print.specs.Text.{escaped}
use Rattle.ly_print.proofs.room.put_runs.Given as goal

-- the bytes so far stand between quotes from the place on
abbrev pub invariant-loop-done : goal.invariant-loop-done
invariant-loop-done l = record {
  within : l.end ≤ l.at + 4 * l.done;
  some : l.done ≤ l.count;
  so_far : take l.end l.room ≡ take l.fn.at l.fn.room ++ escaped double_quote (take l.done l.bytes);
  same : length l.room ≡ length l.fn.room;
}

abbrev pub decreases-loop-done : goal.decreases-loop-done
decreases-loop-done l = l.count - l.done
