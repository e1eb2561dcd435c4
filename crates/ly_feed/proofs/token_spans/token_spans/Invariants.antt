use Rattle.std.proofs.Common.{length}
use Rattle.std.specs.Prelude.{true}
use Rattle.ly_base.specs.Lexed.{start_of}
use Rattle.ly_feed.specs.ScanPart.{scan_part_of}
use Rattle.ly_feed.specs.Private.TokenSpans.{AreListed}
use Rattle.ly_feed.proofs.token_spans.token_spans.Given as goal
use Rattle.ly_scan.specs.KnownWalks.{AreKnown}
use Rattle.ly_scan.specs.StateTable.{ahead_in}

-- the tokens before the place are listed, and what is known of walks is so there
abbrev pub invariant-loop-spans : goal.invariant-loop-spans
invariant-loop-spans l = record {
  listed : AreListed (scan_part_of l.fn.set) (start_of l.fn.text) l.spans.items l.place;
  known : AreKnown (ahead_in l.fn.lexer.scanner) true l.place.rest l.known;
}

abbrev pub decreases-loop-spans : goal.decreases-loop-spans
decreases-loop-spans l = length l.place.rest
