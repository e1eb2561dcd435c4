use Rattle.std.proofs.Common.{◌≡◌, ◌++◌, ◌*◌, drop}
use Rattle.ly_subset.specs.Private.Packed.{AreWords, run_of, unpack_by}
use Rattle.ly_subset.proofs.packed.unpack_runs.Given as goal

-- what is left of the row is still to be unpacked
abbrev pub invariant-loop-pair : goal.invariant-loop-pair
invariant-loop-pair l = (l.numbers.items ++ unpack_by run_of (drop (2 * l.pair) l.row) ≡ unpack_by run_of l.row)
    × AreWords (unpack_by run_of (drop (2 * l.pair) l.row))
