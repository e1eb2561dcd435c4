use Rattle.std.proofs.Common.{◌≡◌, List, length, take}
use Rattle.ly_ere.specs.Arena.{expressions}
use Rattle.ly_ere.specs.Expression.{Expression}
use Rattle.ly_ere.specs.Lengths.{AreNamedLengths}
use Rattle.ly_ere.specs.Private.Lengths.{AreNear, Measures}
use Rattle.ly_ere.proofs.length.node_lengths.Given as goal

-- the nodes so far are measured
abbrev pub invariant-loop-node : goal.invariant-loop-node
invariant-loop-node l = record {
  counted : length l.lengths.items ≡ l.node-index;
  near : AreNear l.lengths.items;
  so_far : (names : List Expression) → AreNamedLengths names l.named
      → Measures names (expressions (take l.node-index l.nodes)) l.lengths.items;
}
