use Rattle.std.proofs.Common.{◌≡◌, slice_get}
use Rattle.ly_counterexamples.specs.Private.Searches.{IsUnderway, measure_of}
use Rattle.ly_counterexamples.proofs.search.Search.finish.Given as goal

-- the search is under way from the first demand
abbrev pub invariant-loop-self : goal.invariant-loop-self
invariant-loop-self l = record {
  underway : IsUnderway l.sought l.self;
  first : slice_get l.self.found 0 ≡ slice_get l.fn.self.found 0;
}

abbrev pub decreases-loop-self : goal.decreases-loop-self
decreases-loop-self l = measure_of l.sought l.self
