use Rattle.std.proofs.Common.{◌≡◌, ◌++◌, drop}
use Rattle.ly_spans.specs.Private.LineStarts.{line_starts, starts_from}
use Rattle.ly_spans.proofs.line_starts.LineStarts.of.Given as goal

-- those that are found, and those behind the next byte
abbrev pub invariant-loop-index : goal.invariant-loop-index
invariant-loop-index l = l.starts.items ++ starts_from l.index (drop l.index l.text) ≡ line_starts l.text
