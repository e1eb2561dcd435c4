use Rattle.ly_conflicts.specs.Private.Grouping.{AreGrouped}
use Rattle.ly_conflicts.proofs.groups.groups_of.Given as goal

-- the conflicts so far are in groups
abbrev pub invariant-loop-index : goal.invariant-loop-index
invariant-loop-index l = AreGrouped l.examples l.index l.groups
