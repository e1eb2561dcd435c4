use Rattle.std.proofs.Common.{◌-◌, length}
use Rattle.ly_subset.specs.Automaton.{IsTrim}
use Rattle.ly_minim.specs.Private.Blocks.{AreApart, AreBlocks}
use Rattle.ly_minim.proofs.blocks.coarsest.Given as goal

-- states of different blocks are told apart
abbrev pub invariant-loop-blocks : goal.invariant-loop-blocks
invariant-loop-blocks l = record {
  blocks : AreBlocks (length l.dfa.rules) l.blocks.of.items l.blocks.count;
  apart : IsTrim l.dfa → AreApart l.dfa l.blocks.of.items;
}

abbrev pub decreases-loop-blocks : goal.decreases-loop-blocks
decreases-loop-blocks l = length l.dfa.rules - l.blocks.count
