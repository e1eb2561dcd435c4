use Rattle.std.proofs.Common.{◌≡◌, ◌≤◌, ◌++◌, ◌-◌, length, take}
use Rattle.ly_print.specs.Json.{string_body}
use Rattle.ly_print.proofs.json.push_string_body.Given as goal

-- the bytes so far stand as they do in a string
abbrev pub invariant-loop-done : goal.invariant-loop-done
invariant-loop-done l = record {
  some : l.done ≤ length l.bytes;
  so_far : l.out.items ≡ l.fn.out.items ++ string_body (take l.done l.bytes);
}

abbrev pub decreases-loop-done : goal.decreases-loop-done
decreases-loop-done l = length l.bytes - l.done
