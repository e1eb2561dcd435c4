use Rattle.std.proofs.Common.{◌≡◌, ◌-◌, ◌<◌, ℕ, List, length}
use Rattle.std.specs.Io.KnownBytes.{Consumes}
use Rattle.std.specs.Prelude.{◌^◌}
use Rattle.ly_drive.specs.Lines.{IsAnsweredSoFar}
use Rattle.ly_drive.proofs.lines.answer_all.Given as goal

-- the lines that have ended are answered, and nothing failed
abbrev pub invariant-loop-lines : goal.invariant-loop-lines
invariant-loop-lines g l = let source = g.R.Source in let sink = g.W.Sink in record {
  so_far : (bytes : List ℕ) × Consumes (source.remaining l.initial.reader) (source.remaining l.reader) bytes
      × (l.seen ≡ length bytes)
      × IsAnsweredSoFar l.form l.prepared bytes (sink.contents l.initial.writer) (sink.contents l.writer)
      l.lines.part.items l.lines.outcome;
  read : source.failures l.reader ≡ source.failures l.initial.reader;
  held : sink.failures l.writer ≡ sink.failures l.initial.writer;
  room : 0 < length l.room;
  small : l.seen < 2 ^ 64;
}

abbrev pub decreases-loop-lines : goal.decreases-loop-lines
decreases-loop-lines g l = 2 ^ 64 - l.seen
