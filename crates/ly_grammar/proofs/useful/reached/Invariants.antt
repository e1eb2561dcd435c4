use Rattle.std.proofs.Common.{◌≡◌, ◌+◌, take}
use Rattle.ly_grammar.specs.Reduction.{kept_rules}
use Rattle.ly_grammar.specs.Private.Reach.{use_edges}
use Rattle.ly_grammar.proofs.useful.reached.Given as goal

-- the edges of the rules before this one were added
abbrev pub invariant-loop-number : goal.invariant-loop-number
invariant-loop-number l = l.graph ≡ record {
  nodes = l.grammar.accept + 1;
  edges = use_edges (take l.number (kept_rules l.productive l.grammar.rules));
}
