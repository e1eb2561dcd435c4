use Rattle.ly_subset.specs.Private.Rules.{AreEnds}
use Rattle.ly_subset.proofs.rules.ends.Given as goal

-- the ends below this position are there
abbrev pub invariant-loop-number : goal.invariant-loop-number
invariant-loop-number l = AreEnds l.nfa l.number l.ends.items
