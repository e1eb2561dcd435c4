use Rattle.std.proofs.Common.{◌⊎◌, ◌↔◌, ℕ, take, Contains}
use Rattle.ly_relate.specs.Private.Groups.{BeginsSolid}
use Rattle.ly_relate.proofs.parted_rules.parted.Given as goal

-- the rules before this one are listed
abbrev pub invariant-loop-rule : goal.invariant-loop-rule
invariant-loop-rule l = record {
  all : (q : ℕ) → (Contains l.solid.items q ⊎ Contains l.others.items q) ↔ Contains (take l.rule-index l.rule-items) q;
  begin : (q : ℕ) → Contains l.solid.items q → BeginsSolid l.lr0.grammar q;
}
