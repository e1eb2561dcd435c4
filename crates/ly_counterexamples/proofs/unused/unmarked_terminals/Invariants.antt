use Rattle.std.proofs.Common.{map}
use Rattle.ly_counterexamples.specs.Private.Unmarked.{IsUnmarked}
use Rattle.ly_counterexamples.proofs.RisingLemmas.{AreRisingBelow}
use Rattle.ly_counterexamples.proofs.unused.unmarked_terminals.Given as goal

-- the terminals so far
abbrev pub invariant-loop-number : goal.invariant-loop-number
invariant-loop-number l = AreRisingBelow (IsUnmarked l.spec l.marks) l.number (map (λ t. t.0) l.found.items)
