use Rattle.ly_digraph.proofs.GraphLemmas.{AreEnds}
use Rattle.ly_digraph.proofs.walk.Walk.new.Given as goal

-- the cursors of the nodes before this one are at the ends of their edges
abbrev pub invariant-loop-node : goal.invariant-loop-node
invariant-loop-node l = AreEnds l.graph l.cursors.items l.node
