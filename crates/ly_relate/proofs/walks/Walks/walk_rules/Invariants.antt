use Rattle.std.proofs.Common.{◌≡◌, map, take}
use Rattle.ly_relate.specs.Private.Walks.{AreBack, AreEdgesTo, IncludesByOne, LooksBackByOne}
use Rattle.ly_relate.specs.Values.{lookback_from}
use Rattle.ly_relate.proofs.walks.Walks.walk_rules.Given as goal

-- the rules before this one were walked
abbrev pub invariant-loop-rule : goal.invariant-loop-rule
invariant-loop-rule l = record {
  nodes : l.self.includes.nodes ≡ l.initial.self.includes.nodes;
  includes : AreEdgesTo l.initial.self.includes l.self.includes l.node
      (IncludesByOne l.gotos (take l.rule-index l.rules) l.goto);
  lookbacks : AreBack (map lookback_from l.initial.self.lookbacks)
      (map lookback_from l.self.lookbacks) l.node
      (LooksBackByOne l.gotos (take l.rule-index l.rules) l.goto);
}
