use Rattle.std.proofs.Common.{◌≡◌, ◌≤◌, ◌+◌, ◌++◌, ℕ, List, Ok, drop, length}
use Rattle.ly_print.specs.TextWriter.{bytes_of, IsAppended}
use Rattle.ly_listing.specs.Labels.{labelled_lines}
use Rattle.ly_listing.specs.Private.Marks.{marked_tokens, AreWithin}
use Rattle.ly_listing.proofs.marks.write_marked.Given as goal

-- the lines so far are on their way, and with those of the marks that are left they are all
abbrev pub invariant-loop-mark : goal.invariant-loop-mark
invariant-loop-mark g l =
    let sink = g.W.Sink in
    let lines = labelled_lines g.F.LineForm.form l.text in
    let tokens = marked_tokens l.labels.labels.items (length l.text) in record {
      so_far : (told : List ℕ)
          × (told ++ lines (tokens (drop l.mark-index l.marks) l.rest) ≡ lines (tokens l.marks l.text))
          × IsAppended l.fn.printer.lines l.printer.lines (sink.contents l.fn.writer) (sink.contents l.writer) told
          (Ok tt)
          × (bytes_of l.printer.lines ≡ bytes_of l.fn.printer.lines + length told);
      within : AreWithin (drop l.mark-index l.marks) l.rest;
      fewer : length l.rest ≤ length l.text;
      same : l.printer.spot.text ≡ l.text;
      no_failure : sink.failures l.writer ≡ sink.failures l.fn.writer;
    }
