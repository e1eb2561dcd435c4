use Rattle.ly_counterexamples.specs.Private.FirstBytes.{IsRowWithZero}
use Rattle.ly_counterexamples.specs.Private.Marks.{AreAdded, ByStepBefore}
use Rattle.ly_counterexamples.proofs.first_bytes.rows_with_zero.Given as goal

-- the rows so far
abbrev pub invariant-loop-row : goal.invariant-loop-row
invariant-loop-row l = AreAdded (ByStepBefore (IsRowWithZero l.sets.sets) l.row) l.initial.marks l.marks
