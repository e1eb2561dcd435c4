use Rattle.std.proofs.Common.{◌≡◌, ◌≤◌, ◌+◌, ◌-◌, length}
use Rattle.ly_subset.specs.Automaton.{IsAutomaton, IsTrim}
use Rattle.ly_minim.specs.Private.Blocks.{AreApart}
use Rattle.ly_minim.specs.Private.Halves.{AreUnions}
use Rattle.ly_minim.specs.Private.Partition.{AreClear, IsPartition, IsUnion}
use Rattle.ly_minim.proofs.halves.refine_by_halves.Given as goal

-- what is split so far is told apart
abbrev pub invariant-loop-half : goal.invariant-loop-half
invariant-loop-half l = record {
  laid : IsPartition l.partition;
  clear : AreClear l.partition;
  count : length l.partition.of.items ≡ length l.dfa.rules;
  halves : AreUnions l.partition.of.items l.halves.items;
  apart : IsAutomaton l.dfa → IsTrim l.dfa → AreApart l.dfa l.start.of.items → AreApart l.dfa l.partition.of.items;
}

-- each half is used once, and there are as many as blocks that were split
abbrev pub decreases-loop-half : goal.decreases-loop-half
decreases-loop-half l = length l.halves.items
    + ((length l.dfa.rules - length l.partition.first.items) + (length l.dfa.rules - length l.partition.first.items))

abbrev pub invariant-loop-groups : goal.invariant-loop-groups
invariant-loop-groups l = record {
  laid : IsPartition l.partition;
  clear : AreClear l.partition;
  count : length l.partition.of.items ≡ length l.dfa.rules;
  halves : AreUnions l.partition.of.items l.halves.items;
  half : IsUnion l.partition.of.items l.half.items;
  apart : IsAutomaton l.dfa → IsTrim l.dfa → AreApart l.dfa l.start.of.items → AreApart l.dfa l.partition.of.items;
  more : length l.initial.partition.first.items ≤ length l.partition.first.items;
  balance : length l.halves.items + length l.initial.partition.first.items
      ≡ length l.initial.halves.items + length l.partition.first.items;
}
