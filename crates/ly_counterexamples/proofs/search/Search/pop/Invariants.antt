use Rattle.std.proofs.Common.{◌≡◌, ◌<◌, ℕ, Some, slice_get}
use Rattle.std.specs.Prelude.{Contains}
use Rattle.ly_counterexamples.specs.declared.steps.Pop.{Pop}
use Rattle.ly_counterexamples.specs.Private.Searches.{GoesOn}
use Rattle.ly_counterexamples.proofs.search.Search.pop.Given as goal

-- the demands so far are there
abbrev pub invariant-loop-next : goal.invariant-loop-next
invariant-loop-next l = record {
  on : GoesOn l.sought l.fn.self l.self;
  there : (k : ℕ) (p : Pop) → k < l.next-index → slice_get l.next-items k ≡ Some p
      → Contains l.self.found p.demand;
  climbed : l.self.climbed ≡ l.fn.self.climbed;
  popped : l.self.popped ≡ l.fn.self.popped;
  best : l.self.best ≡ l.fn.self.best;
}
