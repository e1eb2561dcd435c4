use Rattle.ly_counterexamples.specs.Private.FirstBytes.{AreFirstBefore}
use Rattle.ly_counterexamples.proofs.first_bytes.first_states.Given as goal

-- the rows of the states so far
abbrev pub invariant-loop-state : goal.invariant-loop-state
invariant-loop-state l = AreFirstBefore l.actions l.dfa l.state l.sets
