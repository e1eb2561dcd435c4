use Rattle.ly_counterexamples.specs.Doubts.{NeverMatches}
use Rattle.ly_counterexamples.proofs.RisingLemmas.{AreRisingBelow}
use Rattle.ly_counterexamples.proofs.unmatched.unmatched_rules.Given as goal

-- the rules so far
abbrev pub invariant-loop-rule : goal.invariant-loop-rule
invariant-loop-rule l = AreRisingBelow (NeverMatches l.dfa l.rules) l.rule l.found.items
