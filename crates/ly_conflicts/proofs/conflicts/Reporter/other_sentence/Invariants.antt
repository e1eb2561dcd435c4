use Rattle.std.proofs.Common.{◌≡◌}
use Rattle.ly_conflicts.proofs.conflicts.Reporter.other_sentence.Given as goal

-- the search is for the same conflicts
abbrev pub invariant-loop-index : goal.invariant-loop-index
invariant-loop-index l = l.finder.examples ≡ l.fn.finder.examples
