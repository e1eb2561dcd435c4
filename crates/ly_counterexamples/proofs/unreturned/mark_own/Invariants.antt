use Rattle.ly_counterexamples.specs.Private.Marks.{AreAdded, ByStepBefore}
use Rattle.ly_counterexamples.specs.Private.Unmarked.{ReturnsItself}
use Rattle.ly_counterexamples.proofs.unreturned.mark_own.Given as goal

-- the terminals of the rules so far
abbrev pub invariant-loop-rule : goal.invariant-loop-rule
invariant-loop-rule l = AreAdded (ByStepBefore (ReturnsItself l.actions l.matched) l.rule) l.initial.returned l.returned
