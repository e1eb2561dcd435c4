use Rattle.std.proofs.Common.{◌≡◌, ◌<◌, ℕ, Some, slice_get}
use Rattle.std.specs.Prelude.{Contains}
use Rattle.ly_counterexamples.specs.declared.claim.Demand.{Demand}
use Rattle.ly_counterexamples.specs.Private.Searches.{GoesOn}
use Rattle.ly_counterexamples.proofs.search.Search.climb.Given as goal

-- the demands so far are there
abbrev pub invariant-loop-next : goal.invariant-loop-next
invariant-loop-next l = record {
  on : GoesOn l.sought l.fn.self l.self;
  there : (k : ℕ) (e : Demand) → k < l.next-index → slice_get l.next-items k ≡ Some e → Contains l.self.found e;
  climbed : l.self.climbed ≡ l.fn.self.climbed;
  popped : l.self.popped ≡ l.fn.self.popped;
  best : l.self.best ≡ l.fn.self.best;
}
