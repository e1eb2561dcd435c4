use Rattle.std.proofs.Common.{◌≡◌, ◌≤◌, ◌+◌, ◌*◌, ℕ, List, Ok, length}
use Rattle.ly_base.specs.Lexed.{Token}
use Rattle.ly_listing.specs.Labels.{labelled_lines}
use Rattle.ly_listing.specs.Private.Room.{bytes_each}
use Rattle.ly_listing.specs.Private.SoFar.{LeadsOn, StandsIn}
use Rattle.ly_listing.proofs.RoomLemmas.{AreAtMost}
use Rattle.ly_print.specs.TextWriter.{bytes_of, IsAppended}
use Rattle.ly_scan.specs.Lexers.{scanner_of}
use Rattle.ly_listing.proofs.token_lines.write_told.Given as goal

-- lexemes lead to where the run stands, the lines of their tokens are on their way, and what is left can be counted
abbrev pub invariant-loop-told : goal.invariant-loop-told
invariant-loop-told g l =
    let sink = g.W.Sink in
    let text = l.fn.printer.spot.text in record {
      so_far : (told : List (Token (List ℕ)))
          × LeadsOn l.labels (scanner_of l.lexer.scanner) l.fn.start l.place told
          × IsAppended l.fn.printer.lines l.printer.lines (sink.contents l.fn.writer) (sink.contents l.writer)
          (labelled_lines g.F.LineForm.form text told) (Ok tt);
      counted : (longest : ℕ) → AreAtMost longest l.labels.labels.items
          → bytes_of l.printer.lines + length l.place.rest * bytes_each longest
          ≤ bytes_of l.fn.printer.lines + length l.fn.start.rest * bytes_each longest;
      stands : StandsIn text l.place;
      same : l.printer.spot.text ≡ text;
      no_failure : sink.failures l.writer ≡ sink.failures l.fn.writer;
    }

abbrev pub decreases-loop-told : goal.decreases-loop-told
decreases-loop-told g l = length l.place.rest
