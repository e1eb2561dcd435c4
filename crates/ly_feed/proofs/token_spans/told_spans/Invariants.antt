use Rattle.std.proofs.Common.{length}
use Rattle.ly_feed.specs.Private.Told.{IsAhead}
use Rattle.ly_feed.specs.Private.TokenSpans.{AreListedOn}
use Rattle.ly_feed.specs.ScanPart.{scan_part_of}
use Rattle.ly_feed.proofs.token_spans.told_spans.Given as goal

-- the tokens before the place are listed, and what is known of walks is so there
abbrev pub invariant-loop-told : goal.invariant-loop-told
invariant-loop-told l = record {
  listed : AreListedOn (scan_part_of l.fn.set) l.initial.spans.items l.initial.place l.spans.items l.place;
  ahead : IsAhead l.initial.place l.place;
}

abbrev pub decreases-loop-told : goal.decreases-loop-told
decreases-loop-told l = length l.place.rest
