use Rattle.std.proofs.Common.{◌≡◌, ◌++◌, get_or, take}
use Rattle.std.specs.Fmt.{decimal}
use Rattle.std.specs.List.{flat_map}
use Rattle.ly_print.specs.Json.{other_number}
use Rattle.ly_print.proofs.json.push_numbers.Given as goal

-- the first number and those so far stand there
abbrev pub invariant-loop-byte : goal.invariant-loop-byte
invariant-loop-byte l =
    l.out.items ≡ l.fn.out.items ++ decimal (get_or l.bytes 0 0) ++ flat_map other_number (take l.byte-index l.others)
