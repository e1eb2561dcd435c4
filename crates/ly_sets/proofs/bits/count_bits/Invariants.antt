use Rattle.std.proofs.Common.{◌≡◌, ◌*◌}
use Rattle.std.specs.FinSet as set
use Rattle.ly_sets.specs.NumberSet.{passing_below, has_bit}
use Rattle.ly_sets.proofs.bits.count_bits.Given as goal

-- the numbers of the words so far are counted
abbrev pub invariant-loop-word : goal.invariant-loop-word
invariant-loop-word l = l.count ≡ set.len (passing_below (has_bit l.word-items) (64 * l.word-index))
