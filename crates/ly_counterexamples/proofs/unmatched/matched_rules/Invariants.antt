use Rattle.ly_counterexamples.specs.Private.Marks.{AreAdded, ByStepBefore}
use Rattle.ly_counterexamples.specs.Private.Matched.{LeadsAtOnce}
use Rattle.ly_counterexamples.proofs.unmatched.matched_rules.Given as goal

-- the rules to which one byte leads from the states so far
abbrev pub invariant-loop-state : goal.invariant-loop-state
invariant-loop-state l = AreAdded (ByStepBefore (LeadsAtOnce l.dfa) l.state) l.initial.matched l.matched
