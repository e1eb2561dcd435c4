use Rattle.std.proofs.Common.{◌≡◌, ◌≤◌, ◌-◌, length, take}
use Rattle.std.specs.Io.KnownBytes.{Appends}
use Rattle.ly_print.proofs.whole.write_whole.Given as goal

-- the bytes so far have gone out, and nothing failed
abbrev pub invariant-loop-written : goal.invariant-loop-written
invariant-loop-written g l = let sink = g.W.Sink in record {
  within : l.written ≤ length l.bytes;
  gone : Appends (sink.contents l.initial.writer) (sink.contents l.writer) (take l.written l.bytes);
  counted : sink.failures l.writer ≡ sink.failures l.initial.writer;
}

abbrev pub decreases-loop-written : goal.decreases-loop-written
decreases-loop-written g l = length l.bytes - l.written
