use Rattle.std.proofs.Common.{◌≡◌, ◌-◌, ◌<◌, length}
use Rattle.std.specs.Prelude.{◌^◌}
use Rattle.ly_drive.specs.Private.Reading.{IsReadSoFar}
use Rattle.ly_drive.proofs.driving.feed_all.Given as goal
use Rattle.ly_feed.specs.Held.{seen}

-- what came so far is in the feed, and nothing failed or was written
abbrev pub invariant-loop-outcome : goal.invariant-loop-outcome
invariant-loop-outcome g l = let source = g.R.Source in record {
  so_far : IsReadSoFar l.initial.feed.form l.initial.feed.set (source.remaining l.initial.reader)
      (source.remaining l.reader) l.feed;
  counted : source.failures l.reader ≡ source.failures l.initial.reader;
  untouched : l.writer ≡ l.initial.writer;
  room : 0 < length l.room;
  same_room : length l.room ≡ length l.initial.room;
}

abbrev pub decreases-loop-outcome : goal.decreases-loop-outcome
decreases-loop-outcome g l = 2 ^ 64 - seen l.feed
