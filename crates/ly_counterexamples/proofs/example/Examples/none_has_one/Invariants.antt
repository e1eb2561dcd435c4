use Rattle.std.proofs.Common.{◌≡◌, ◌<◌, ℕ, Some, slice_get}
use Rattle.ly_counterexamples.specs.Examples.{HasNoExample}
use Rattle.ly_counterexamples.proofs.example.Examples.none_has_one.Given as goal

-- none of those so far has one
abbrev pub invariant-loop-index : goal.invariant-loop-index
invariant-loop-index l = (k i : ℕ) → k < l.index-index → slice_get l.indices k ≡ Some i → HasNoExample l.self i
