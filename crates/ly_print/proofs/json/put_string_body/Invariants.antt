use Rattle.std.proofs.Common.{◌≡◌, ◌≤◌, ◌+◌, ◌*◌, ◌++◌, length, take, ◌-◌}
use Rattle.ly_print.specs.Json.{string_body}
use Rattle.ly_print.proofs.json.put_string_body.Given as goal

-- the bytes so far stand in a string from the place on
abbrev pub invariant-loop-done : goal.invariant-loop-done
invariant-loop-done l = record {
  within : l.end ≤ l.at + 6 * l.done;
  some : l.done ≤ l.count;
  so_far : take l.end l.room ≡ take l.fn.at l.fn.room ++ string_body (take l.done l.bytes);
  same : length l.room ≡ length l.fn.room;
}

abbrev pub decreases-loop-done : goal.decreases-loop-done
decreases-loop-done l = l.count - l.done
