use Rattle.std.proofs.Common.{◌≡◌, ◌≤◌, ◌+◌, ◌++◌}
use Rattle.std.specs.Prelude.{◌-◌}
use Rattle.std.specs.List.{range_with_len}
use Rattle.ly_subset.proofs.packed.push_run.Given as goal

-- the numbers so far
abbrev pub invariant-loop-number : goal.invariant-loop-number
invariant-loop-number l = (l.number - l.first ≤ l.last + 1 - l.first)
    × (l.numbers.items ≡ l.initial.numbers.items ++ range_with_len l.first (l.number - l.first))
