use Rattle.std.proofs.Common.{◌≡◌, ◌≤◌, ◌+◌, ◌*◌, ℕ, List, Ok, length, true}
use Rattle.ly_base.specs.Lexed.{Token, start_of}
use Rattle.ly_listing.specs.Labels.{labelled_lines}
use Rattle.ly_listing.specs.Private.Room.{bytes_each}
use Rattle.ly_listing.specs.Private.SoFar.{SoFar}
use Rattle.ly_listing.proofs.RoomLemmas.{AreAtMost}
use Rattle.ly_print.specs.TextWriter.{bytes_of, IsAppended}
use Rattle.ly_scan.specs.KnownWalks.{AreKnown}
use Rattle.ly_scan.specs.Lexers.{scanner_of}
use Rattle.ly_scan.specs.StateTable.{ahead_in}
use Rattle.ly_listing.proofs.token_lines.write_token_lines.Given as goal

-- the lexemes so far lead to where the run stands, the lines of their tokens are on their way, what is left can be
-- counted, and what is known of walks is so there
abbrev pub invariant-loop-known : goal.invariant-loop-known
invariant-loop-known g l =
    let sink = g.W.Sink in
    let text = l.listing.text.now in
    let labels = l.listing.labels.now in
    let lexer = l.listing.lexer.now in record {
      so_far : (told : List (Token (List ℕ))) × SoFar labels (scanner_of lexer.scanner) (start_of text) l.place told
          × IsAppended l.fn.empty l.printer.lines (sink.contents l.fn.writer) (sink.contents l.writer)
          (labelled_lines g.F.LineForm.form text told) (Ok tt);
      counted : (longest : ℕ) → AreAtMost longest labels.labels.items
          → bytes_of l.printer.lines + length l.place.rest * bytes_each longest ≤ length text * bytes_each longest;
      same : l.printer.spot.text ≡ text;
      no_failure : sink.failures l.writer ≡ sink.failures l.fn.writer;
      known : AreKnown (ahead_in lexer.scanner) true l.place.rest l.known;
    }

abbrev pub decreases-loop-known : goal.decreases-loop-known
decreases-loop-known g l = length l.place.rest
