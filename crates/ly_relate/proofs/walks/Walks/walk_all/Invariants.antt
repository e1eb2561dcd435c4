use Rattle.std.proofs.Common.{◌≡◌, ◌<◌, ◌≤◌, ◌↔◌, ℕ, length, map, Contains}
use Rattle.ly_digraph.specs.Digraph.{IsEdge}
use Rattle.ly_relate.specs.Private.Walks.{BackFrom, EdgeFrom}
use Rattle.ly_relate.specs.Values.{lookback_from}
use Rattle.ly_relate.proofs.walks.Walks.walk_all.Given as goal

-- the transitions before this one were walked from
abbrev pub invariant-loop-goto : goal.invariant-loop-goto
invariant-loop-goto l = record {
  within : l.goto ≤ length l.gotos.gotos;
  nodes : l.self.includes.nodes ≡ l.groups.end;
  includes : (i o : ℕ) → IsEdge l.self.includes i o
      ↔ ((j : ℕ) × (j < l.goto) × EdgeFrom l.gotos l.rules l.groups j i o);
  lookbacks : (s p o : ℕ) → Contains (map lookback_from l.self.lookbacks)
      (record { state = s; rule = p; node = o }) ↔ ((j : ℕ) × (j < l.goto) × BackFrom l.gotos l.rules l.groups j s p o);
}
