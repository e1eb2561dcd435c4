use Rattle.ly_counterexamples.specs.Private.FirstBytes.{BeginsWith}
use Rattle.ly_counterexamples.specs.Private.Marks.{AreAdded, ByStepBefore}
use Rattle.ly_counterexamples.proofs.first_bytes.mark_bytes.Given as goal

-- the bytes so far
abbrev pub invariant-loop-byte : goal.invariant-loop-byte
invariant-loop-byte l = AreAdded (ByStepBefore (BeginsWith l.leading l.dfa l.state) l.byte) l.initial.bytes l.bytes
