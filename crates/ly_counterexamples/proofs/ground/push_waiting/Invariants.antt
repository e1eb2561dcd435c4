use Rattle.std.proofs.Common.{map}
use Rattle.ly_join.specs.Grammar.{symbol_of}
use Rattle.ly_counterexamples.specs.Private.Lists.{AreWaitingAdded}
use Rattle.ly_counterexamples.proofs.ground.push_waiting.Given as goal

-- the items so far were added
abbrev pub invariant-loop-dot : goal.invariant-loop-dot
invariant-loop-dot l = AreWaitingAdded l.initial.waiting l.waiting (map symbol_of l.body) l.rule l.dot
