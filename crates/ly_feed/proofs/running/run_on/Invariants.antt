use Rattle.std.proofs.Common.{◌≡◌, length}
use Rattle.std.specs.Prelude.{false}
use Rattle.ly_feed.specs.Onward.{Onward}
use Rattle.ly_feed.specs.Closed.{progress_of}
use Rattle.ly_feed.specs.ScanPart.{scan_part_of}
use Rattle.ly_feed.proofs.running.run_on.Given as goal
use Rattle.ly_scan.specs.KnownWalks.{AreKnown}
use Rattle.ly_scan.specs.StateTable.{ahead_in}

-- decided matches lead from where the run began to where it stands, and what is known of walks is so there
abbrev pub invariant-loop-known : goal.invariant-loop-known
invariant-loop-known l = record {
  onward : Onward l.fn.ended (scan_part_of l.fn.set) l.initial.parser.machine (progress_of l.initial.place
      l.initial.parser) (progress_of l.place l.parser);
  machine : l.parser.machine ≡ l.initial.parser.machine;
  goes_on : l.parser.over ≡ false;
  known : AreKnown (ahead_in l.fn.lexer.scanner) l.fn.ended l.place.rest l.known;
}

abbrev pub decreases-loop-known : goal.decreases-loop-known
decreases-loop-known l = length l.place.rest
