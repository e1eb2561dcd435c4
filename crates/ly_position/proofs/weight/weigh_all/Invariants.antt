use Rattle.std.proofs.Common.{◌≡◌, ◌≤◌, ◌+◌, drop}
use Rattle.ly_ere.specs.Names.{defined}
use Rattle.ly_position.specs.TotalWeight.{total_weight}
use Rattle.ly_position.proofs.weight.weigh_all.Given as goal

-- the weight so far, with that of the rules that are left, is that of all
abbrev pub invariant-loop-rule : goal.invariant-loop-rule
invariant-loop-rule l = record {
  within : l.total ≤ l.most;
  whole : l.total + total_weight (defined l.names) (drop l.rule-index l.rules) ≡ total_weight (defined l.names) l.rules;
}
