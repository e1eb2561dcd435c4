use Rattle.ly_counterexamples.specs.Private.Lists.{ArePredecessorsOf}
use Rattle.ly_counterexamples.proofs.ground.predecessors_of.Given as goal

-- the predecessors among the states so far
abbrev pub invariant-loop-state : goal.invariant-loop-state
invariant-loop-state l = ArePredecessorsOf l.lr0 l.predecessors l.state
