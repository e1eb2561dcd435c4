use Rattle.ly_counterexamples.specs.Private.Marks.{AreAdded, ByStepBefore}
use Rattle.ly_counterexamples.specs.Private.Unmarked.{StandsIn}
use Rattle.ly_counterexamples.proofs.unused.unused_terminals.Given as goal

-- the terminals of the rules so far
abbrev pub invariant-loop-rule : goal.invariant-loop-rule
invariant-loop-rule l = AreAdded (ByStepBefore (StandsIn l.spec) l.rule-index) l.initial.used l.used
