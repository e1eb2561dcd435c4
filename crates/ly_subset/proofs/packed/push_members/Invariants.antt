use Rattle.std.proofs.Common.{◌≡◌, ◌++◌}
use Rattle.ly_subset.specs.Private.Packed.{members_below}
use Rattle.ly_subset.proofs.packed.push_members.Given as goal

-- the members so far
abbrev pub invariant-loop-bit : goal.invariant-loop-bit
invariant-loop-bit l = l.numbers.items ≡ l.initial.numbers.items ++ members_below l.fn.block l.fn.bits l.bit
