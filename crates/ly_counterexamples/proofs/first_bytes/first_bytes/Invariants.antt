use Rattle.ly_counterexamples.specs.Private.FirstBytes.{BeginsAt}
use Rattle.ly_counterexamples.specs.Private.Marks.{AreAdded, ByStepBefore}
use Rattle.ly_counterexamples.proofs.first_bytes.first_bytes.Given as goal

-- the bytes of the starts so far
abbrev pub invariant-loop-place : goal.invariant-loop-place
invariant-loop-place l = AreAdded (ByStepBefore (BeginsAt l.actions l.dfa) l.place) l.initial.bytes l.bytes
