use Rattle.std.proofs.Common.{◌≡◌}
use Rattle.ly_digraph.specs.Search.{IsClosed}
use Rattle.ly_digraph.proofs.walk.Walk.close.Given as goal

-- the nodes before this position are closed
abbrev pub invariant-loop-position : goal.invariant-loop-position
invariant-loop-position l = record {
  closed : IsClosed l.fn.sets l.sets l.fn.self.places.items l.self.places.items l.root.start l.position l.root.node;
  pending : l.self.pending ≡ l.fn.self.pending;
  cursors : l.self.cursors ≡ l.fn.self.cursors;
  path : l.self.path ≡ l.fn.self.path;
}
