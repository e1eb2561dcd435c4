use Rattle.std.proofs.Common.{◌≡◌, ◌≤◌}
use Rattle.ly_relate.specs.Private.Reads.{IsNullableWithin}
use Rattle.ly_relate.specs.Private.Walks.{AreEdgesFrom}
use Rattle.ly_relate.proofs.reads.add_reads.Given as goal

-- edges to the nullable ones before this one are there
abbrev pub invariant-loop-next : goal.invariant-loop-next
invariant-loop-next l = record {
  start : l.initial.next ≤ l.next;
  nodes : l.graph.nodes ≡ l.initial.graph.nodes;
  edges : AreEdgesFrom l.initial.graph l.graph l.goto (IsNullableWithin l.gotos l.initial.next l.next);
}
