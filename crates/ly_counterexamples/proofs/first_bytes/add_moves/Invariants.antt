use Rattle.ly_counterexamples.specs.Private.FirstBytes.{AreEdgesAdded, ByEdgeStepBefore, MovesByClass}
use Rattle.ly_counterexamples.proofs.first_bytes.add_moves.Given as goal

-- the moves by the classes so far
abbrev pub invariant-loop-class : goal.invariant-loop-class
invariant-loop-class l = AreEdgesAdded (ByEdgeStepBefore (MovesByClass l.dfa l.state) l.class) l.initial.graph l.graph
