use Rattle.std.proofs.Common.{length}
use Rattle.ly_yaccread.proofs.SpanLemmas.{AreSpans}
use Rattle.ly_yaccread.proofs.spans.word_spans.Given as goal

-- the words before the rest have their spans
abbrev pub invariant-loop-rest : goal.invariant-loop-rest
invariant-loop-rest l = AreSpans (length l.text) (length l.rest) l.spans.items

abbrev pub decreases-loop-rest : goal.decreases-loop-rest
decreases-loop-rest l = length l.rest
