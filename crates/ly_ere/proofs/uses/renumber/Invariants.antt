use Rattle.std.proofs.Common.{◌≡◌, map, take}
use Rattle.ly_ere.specs.Arena.{expressions}
use Rattle.ly_ere.specs.Private.Uses.{number_for, renumbered}
use Rattle.ly_ere.proofs.uses.renumber.Given as goal

abbrev pub invariant-loop-node : goal.invariant-loop-node
invariant-loop-node l = record {
  so_far : l.arena ≡ map (renumbered (number_for l.numbers)) (expressions (take l.node-index l.nodes));
}
