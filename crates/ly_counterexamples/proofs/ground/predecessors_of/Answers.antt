use Rattle.std.proofs.Common.{arith}
use Rattle.ly_counterexamples.proofs.GroundLemmas.{predecessors_all}
use Rattle.ly_counterexamples.proofs.ground.predecessors_of.Goals as goal

pub returns-clause-predecessors : goal.returns-clause-predecessors
returns-clause-predecessors c =
    let count = c.states-state-end.ensures.count in
    predecessors_all c.args.lr0.now c.loop-state.predecessors c.loop-state.state (omega (arith, count))
    c.loop-state.invariant
