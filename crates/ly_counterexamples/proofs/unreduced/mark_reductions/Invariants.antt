use Rattle.ly_counterexamples.specs.Private.Marks.{AreAdded, ByStepBefore}
use Rattle.ly_counterexamples.specs.Private.Reductions.{ReducesAt}
use Rattle.ly_counterexamples.proofs.unreduced.mark_reductions.Given as goal

-- the rules of the entries so far
abbrev pub invariant-loop-entry : goal.invariant-loop-entry
invariant-loop-entry l = AreAdded (ByStepBefore (ReducesAt l.row) l.entry-index) l.initial.reduced l.reduced
