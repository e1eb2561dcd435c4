use Rattle.std.proofs.Common.{◌≡◌, map}
use Rattle.ly_parse.specs.Private.Copied.{states_in}
use Rattle.ly_parse.specs.Private.LastRun.{IsLast}
use Rattle.ly_parse.proofs.ExpectedListLemmas.{AreBelow}
use Rattle.ly_parse.proofs.listing.expected.Given as goal

-- those before the terminal are listed, and what is kept of the last run is so
abbrev pub invariant-loop-number : goal.invariant-loop-number
invariant-loop-number g l = record {
  whole : l.copied.whole ≡ states_in l.stack;
  last : IsLast l.machine (states_in l.stack) l.last;
  listed : AreBelow l.machine (states_in l.stack) l.number (map (λ t. t.0) l.list.items);
}
