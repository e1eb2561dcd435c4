use Rattle.std.proofs.Common.{◌≡◌, length}
use Rattle.std.specs.Prelude.{Bool, false}
use Rattle.ly_feed.specs.Closed.{progress_of}
use Rattle.ly_feed.specs.Onward.{Onward}
use Rattle.ly_feed.specs.Private.Told.{IsAhead}
use Rattle.ly_feed.specs.ScanPart.{scan_part_of}
use Rattle.ly_feed.proofs.running_told.run_told.Given as goal

-- decided matches lead from where the run began to where it stands
abbrev pub invariant-loop-told : goal.invariant-loop-told
invariant-loop-told g l = record {
  onward : (ended : Bool) → Onward ended (scan_part_of l.fn.set) l.fn.parser.machine
      (progress_of l.fn.start l.fn.parser) (progress_of l.place l.parser);
  machine : l.parser.machine ≡ l.fn.parser.machine;
  goes_on : l.parser.over ≡ false;
  ahead : IsAhead l.fn.start l.place;
}

abbrev pub decreases-loop-told : goal.decreases-loop-told
decreases-loop-told g l = length l.place.rest
