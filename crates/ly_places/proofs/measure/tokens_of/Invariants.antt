use Rattle.std.proofs.Common.{◌≡◌, ◌+◌, drop}
use Rattle.ly_places.specs.Private.Measured.{tokens_among}
use Rattle.ly_places.proofs.measure.tokens_of.Given as goal

-- with those of the other terms they are all
abbrev pub invariant-loop-measure : goal.invariant-loop-measure
invariant-loop-measure l = l.tokens + tokens_among (drop l.measure-index l.body) ≡ tokens_among l.body
