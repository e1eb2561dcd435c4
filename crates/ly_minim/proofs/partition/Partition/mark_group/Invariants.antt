use Rattle.std.proofs.Common.{◌≡◌, ◌<◌, ℕ, length, Option, Some}
use Rattle.ly_minim.specs.Private.Groups.{AreGrouped, past}
use Rattle.ly_minim.specs.Private.Partition.{AreTouched, HasSameBlocks, IsPartition}
use Rattle.ly_minim.proofs.PartitionLemmas.{IsMarkedTo}
use Rattle.ly_minim.proofs.partition.Partition.mark_group.Given as goal

-- the states of the key that stand before this one in its chain are marked
abbrev pub invariant-loop-next : goal.invariant-loop-next
invariant-loop-next l = record {
  laid : IsPartition l.self;
  same : HasSameBlocks l.initial.self l.self;
  touched : AreTouched l.self 0 l.touched.items;
  within : (s : ℕ) → l.next ≡ Some s → s < length l.initial.self.of.items;
  marked : (of : ℕ → Option ℕ)
      → AreGrouped (length l.initial.self.of.items) of l.groups.last l.groups.before
      → IsMarkedTo of l.key l.next l.initial.self l.self;
}

abbrev pub decreases-loop-next : goal.decreases-loop-next
decreases-loop-next l = past l.next
