use Rattle.ly_counterexamples.specs.Private.Marks.{AreAdded, ByStepBefore}
use Rattle.ly_counterexamples.specs.Private.Reductions.{StateReduces}
use Rattle.ly_counterexamples.proofs.unreduced.reduced_rules.Given as goal

-- the rules of the states so far
abbrev pub invariant-loop-state : goal.invariant-loop-state
invariant-loop-state l = AreAdded (ByStepBefore (StateReduces l.resolved) l.state) l.initial.reduced l.reduced
