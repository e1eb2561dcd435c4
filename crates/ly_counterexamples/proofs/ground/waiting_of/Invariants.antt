use Rattle.ly_counterexamples.specs.Private.Lists.{AreWaitingOf}
use Rattle.ly_counterexamples.proofs.ground.waiting_of.Given as goal

-- the items of the rules so far
abbrev pub invariant-loop-rule : goal.invariant-loop-rule
invariant-loop-rule l = AreWaitingOf l.lr0.grammar l.waiting l.rule
