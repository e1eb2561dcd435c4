use Rattle.std.proofs.Common.{◌≡◌, ◌+◌, ◌≤◌, ◌++◌, drop, length}
use Rattle.ly_places.specs.Private.Measured.{tokens_among}
use Rattle.ly_places.specs.Private.Waiting.{body_from}
use Rattle.ly_places.proofs.flattening.Flattening.body_of.Given as goal

-- with the other children it is the whole body, and their tokens are there
abbrev pub invariant-loop-k : goal.invariant-loop-k
invariant-loop-k l = record {
  begun : l.body.items
      ++ body_from l.self.tokens.now l.first l.last (drop l.k l.children) (drop l.k l.measures)
      ≡ body_from l.self.tokens.now l.fn.first l.fn.start l.children l.measures;
  within : l.first + tokens_among (drop l.k l.measures) ≤ length l.self.tokens.now;
}
