use Rattle.ly_report.proofs.RemovedLemmas.{AreRemovedBelow}
use Rattle.ly_report.proofs.write_report.removed_rules.Given as goal

-- the removed rules below the number were found
abbrev pub invariant-loop-number : goal.invariant-loop-number
invariant-loop-number l = AreRemovedBelow l.grammar l.number l.removed.items
