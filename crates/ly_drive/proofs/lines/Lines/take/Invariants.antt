use Rattle.std.proofs.Common.{◌≡◌, ◌++◌, ℕ, List, Option, take}
use Rattle.ly_drive.specs.Lines.{IsAnsweredSoFar}
use Rattle.ly_drive.proofs.lines.Lines.take.Given as goal

-- the first bytes are taken, and no write failed
abbrev pub invariant-loop-byte : goal.invariant-loop-byte
invariant-loop-byte g l = let sink = g.W.Sink in record {
  taken : (front : List ℕ) (before : Option (List ℕ))
      → IsAnsweredSoFar l.form l.prepared front before (sink.contents l.initial.writer) l.initial.self.part.items
      l.initial.self.outcome
      → IsAnsweredSoFar l.form l.prepared (front ++ take l.byte-index l.bytes) before (sink.contents l.writer)
      l.self.part.items l.self.outcome;
  held : sink.failures l.writer ≡ sink.failures l.initial.writer;
}
