use Rattle.ly_counterexamples.specs.Private.Marks.{AreAdded, ByStepBefore}
use Rattle.ly_counterexamples.specs.Private.Matched.{LeadsByClass}
use Rattle.ly_counterexamples.proofs.unmatched.mark_next.Given as goal

-- the rules to which the classes so far lead
abbrev pub invariant-loop-class : goal.invariant-loop-class
invariant-loop-class l = AreAdded (ByStepBefore (LeadsByClass l.dfa l.state) l.class) l.initial.matched l.matched
