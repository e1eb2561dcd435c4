use Rattle.std.proofs.Common.{◌≡◌, length}
use Rattle.ly_minim.specs.Private.Halves.{AreUnions, IsRefinedBy}
use Rattle.ly_minim.specs.Private.Partition.{AreClear, IsPartition}
use Rattle.ly_minim.proofs.halves.start_partition.Given as goal

-- what is split so far is in different blocks
abbrev pub invariant-loop-block : goal.invariant-loop-block
invariant-loop-block l = record {
  laid : IsPartition l.partition;
  clear : AreClear l.partition;
  count : length l.partition.of.items ≡ l.states;
  within : IsRefinedBy l.states l.partition.of.items l.start.of.items;
  halves : AreUnions l.partition.of.items l.halves.items;
}
