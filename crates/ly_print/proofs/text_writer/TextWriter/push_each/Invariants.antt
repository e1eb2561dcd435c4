use Rattle.std.proofs.Common.{◌≡◌, ◌+◌, Ok, length, take}
use Rattle.std.specs.List.{flat_map}
use Rattle.ly_print.specs.Private.ByteForm.{written_as}
use Rattle.ly_print.specs.TextWriter.{bytes_of, IsAppended}
use Rattle.ly_print.proofs.text_writer.TextWriter.push_each.Given as goal

-- what is written for the bytes so far has come, and nothing failed
abbrev pub invariant-loop-byte : goal.invariant-loop-byte
invariant-loop-byte g l = let sink = g.W.Sink in record {
  so_far : IsAppended l.fn.self l.self (sink.contents l.fn.writer) (sink.contents l.writer)
      (flat_map (written_as l.form) (take l.byte-index l.bytes)) (Ok tt);
  counted : bytes_of l.self ≡ bytes_of l.fn.self + length (flat_map (written_as l.form) (take l.byte-index l.bytes));
  no_failure : sink.failures l.writer ≡ sink.failures l.fn.writer;
}
