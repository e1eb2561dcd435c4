use Rattle.std.proofs.Common.{map}
use Rattle.ly_join.specs.Grammar.{symbol_of}
use Rattle.ly_counterexamples.specs.Private.Marks.{AreAdded, ByStepBefore}
use Rattle.ly_counterexamples.specs.Private.Unmarked.{StandsAt}
use Rattle.ly_counterexamples.proofs.unused.mark_body.Given as goal

-- the terminals so far
abbrev pub invariant-loop-symbol : goal.invariant-loop-symbol
invariant-loop-symbol l = AreAdded (ByStepBefore (StandsAt (map symbol_of l.body)) l.symbol-index) l.initial.used l.used
