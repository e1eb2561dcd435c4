use Rattle.std.proofs.Common.{◌*◌}
use Rattle.ly_sets.specs.Union.{IsUnited}
use Rattle.ly_sets.proofs.bits.union_words.Given as goal

-- the blocks before this one are united, the other words are as they were
abbrev pub invariant-loop-block : goal.invariant-loop-block
invariant-loop-block l = IsUnited l.fn.words l.words l.to l.from (l.block * 4) l.grew
