use Rattle.std.proofs.Common.{◌≡◌, ◌↔◌, ◌<◌, ℕ, length}
use Rattle.ly_digraph.specs.Digraph.{IsEdge}
use Rattle.ly_relate.specs.Related.{IsRead}
use Rattle.ly_relate.proofs.reads.reads.Given as goal

-- what the transitions before this one read is there
abbrev pub invariant-loop-goto : goal.invariant-loop-goto
invariant-loop-goto l = record {
  nodes : l.graph.nodes ≡ length l.gotos.gotos;
  edges : (i j : ℕ) → IsEdge l.graph i j ↔ ((i < l.goto) × IsRead l.gotos.automaton l.gotos.gotos i j);
}
