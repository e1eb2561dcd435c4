use Rattle.std.proofs.Common.{◌≡◌, ◌↔◌, ◌<◌, ◌≤◌, ◌+◌, ℕ, length, Option}
use Rattle.ly_minim.specs.Private.Groups.{AreGrouped}
use Rattle.ly_minim.specs.Private.Halves.{AreUnions}
use Rattle.ly_minim.specs.Private.Partition.{AreTouched, HasKeyBelow, HasSameBlocks, IsFiner, IsMarked, IsPartition}
use Rattle.ly_minim.proofs.SplitByLemmas.{IsSplitting}
use Rattle.ly_minim.proofs.partition.Partition.split_by.Given as goal

-- the states with one of the keys so far are marked
abbrev pub invariant-loop-key : goal.invariant-loop-key
invariant-loop-key l = record {
  laid : IsPartition l.self;
  same : HasSameBlocks l.fn.self l.self;
  touched : AreTouched l.self 0 l.touched.items;
  marked : (key : ℕ → Option ℕ) → AreGrouped (length l.fn.self.of.items) key l.groups.last l.groups.before
      → (s : ℕ) → s < length l.fn.self.of.items → (IsMarked l.self s ↔ HasKeyBelow key l.keys l.key-index s);
}

-- the blocks so far are split
abbrev pub invariant-loop-block : goal.invariant-loop-block
invariant-loop-block l = record {
  laid : IsPartition l.self;
  count : length l.self.of.items ≡ length l.fn.self.of.items;
  more : length l.fn.self.first.items ≤ length l.self.first.items;
  finer : IsFiner l.fn.self l.self;
  touched : AreTouched l.self l.block-index l.block-items;
  halves : AreUnions l.self.of.items l.halves.items;
  balance : length l.halves.items + length l.fn.self.first.items
      ≡ length l.fn.halves.items + length l.self.first.items;
  splitting : (key : ℕ → Option ℕ)
      → AreGrouped (length l.fn.self.of.items) key l.fn.groups.last l.fn.groups.before
      → IsSplitting key l.fn.keys l.fn.self l.self;
}
