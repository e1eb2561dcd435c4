use Rattle.std.proofs.Common.{◌≡◌, length, Some}
use Rattle.ly_minim.specs.Private.Groups.{AreChains, AreGrouped}
use Rattle.ly_minim.specs.Private.Signature.{block_of}
use Rattle.ly_minim.proofs.halves.groups_of_blocks.Given as goal

-- the states before this one are grouped
abbrev pub invariant-loop-state : goal.invariant-loop-state
invariant-loop-state l = record {
  keys : length l.groups.last ≡ l.blocks.count;
  chains : AreChains l.state l.groups.last l.groups.before;
  grouped : AreGrouped l.state (λ s. Some (block_of l.blocks.of.items s)) l.groups.last l.groups.before;
}
