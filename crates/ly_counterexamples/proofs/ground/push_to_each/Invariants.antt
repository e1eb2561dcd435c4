use Rattle.std.proofs.Common.{take}
use Rattle.ly_counterexamples.specs.Private.Lists.{ArePredecessorsAdded}
use Rattle.ly_counterexamples.proofs.ground.push_to_each.Given as goal

-- the state is a predecessor of those to which the transitions so far lead
abbrev pub invariant-loop-transition : goal.invariant-loop-transition
invariant-loop-transition l = ArePredecessorsAdded l.initial.predecessors l.predecessors l.predecessor
    (take l.transition-index l.transitions)
