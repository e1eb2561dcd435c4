use Rattle.std.proofs.Common.{◌≡◌, Some, slice_get, map}
use Rattle.std.specs.Prelude.{reverse}
use Rattle.ly_join.specs.Grammar.{symbol_of}
use Rattle.ly_counterexamples.specs.declared.claim.Demand.{Demand}
use Rattle.ly_counterexamples.specs.Private.Met.{IsMet}
use Rattle.ly_counterexamples.specs.Private.Searches.{automaton_of}
use Rattle.ly_counterexamples.proofs.search.Search.string.Given as goal

-- the string so far meets the demand at the place
abbrev pub invariant-loop-place : goal.invariant-loop-place
invariant-loop-place l = (d : Demand) × (slice_get l.self.found l.place ≡ Some d)
    × IsMet (automaton_of l.sought) l.sought.terminal.0 (reverse (map symbol_of l.string.items)) d

abbrev pub decreases-loop-place : goal.decreases-loop-place
decreases-loop-place l = l.place
