use Rattle.std.proofs.Common.{◌<◌, ◌≡◌, ◌≤◌, All, length}
use Rattle.std.specs.Prelude.{IfSome}
use Rattle.ly_relate.specs.Private.Groups.{AreGroups, solid_of}
use Rattle.ly_relate.proofs.groups.Groups.new.Given as goal

-- the transitions before this one have their nodes
abbrev pub invariant-loop-goto : goal.invariant-loop-goto
invariant-loop-goto l = record {
  within : l.goto ≤ length l.gotos.gotos;
  last : All (λ o. IfSome o (λ e. e < l.goto)) l.last.items;
  room : length l.last.items ≡ length l.rules.solid;
  groups : AreGroups l.gotos (solid_of l.rules) l.goto l.groups;
}
