use Rattle.std.proofs.Common.{map}
use Rattle.ly_join.specs.Terminals.{terminal_from}
use Rattle.ly_counterexamples.specs.Private.Marks.{AreAdded, ByStepBefore}
use Rattle.ly_counterexamples.specs.Private.Unmarked.{IsLiteralAt}
use Rattle.ly_counterexamples.proofs.unreturned.mark_literals.Given as goal

-- the literals so far
abbrev pub invariant-loop-number : goal.invariant-loop-number
invariant-loop-number l = AreAdded (ByStepBefore (IsLiteralAt (map terminal_from l.names) l.bytes) l.number)
    l.initial.returned l.returned
