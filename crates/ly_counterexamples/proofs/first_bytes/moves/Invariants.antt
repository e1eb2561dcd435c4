use Rattle.ly_counterexamples.specs.Private.FirstBytes.{AreEdgesAdded, ByEdgeStepBefore, Moves}
use Rattle.ly_counterexamples.proofs.first_bytes.moves.Given as goal

-- the moves from the states so far
abbrev pub invariant-loop-state : goal.invariant-loop-state
invariant-loop-state l = AreEdgesAdded (ByEdgeStepBefore (Moves l.dfa) l.state) l.initial.graph l.graph
