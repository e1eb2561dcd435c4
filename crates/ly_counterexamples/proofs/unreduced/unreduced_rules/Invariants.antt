use Rattle.ly_counterexamples.specs.Doubts.{NeverReduces}
use Rattle.ly_counterexamples.proofs.RisingLemmas.{AreRisingBelow}
use Rattle.ly_counterexamples.proofs.unreduced.unreduced_rules.Given as goal

-- the rules so far
abbrev pub invariant-loop-rule : goal.invariant-loop-rule
invariant-loop-rule l = AreRisingBelow (NeverReduces l.resolved) l.rule l.found.items
