use Rattle.std.proofs.Common.{take}
use Rattle.ly_relate.specs.Private.Groups.{LeadAlike}
use Rattle.ly_relate.proofs.groups.all_lead_alike.Given as goal

-- the rules before this one lead alike
abbrev pub invariant-loop-rule : goal.invariant-loop-rule
invariant-loop-rule l = LeadAlike l.lr0 (take l.rule-index l.rules) l.one.0 l.other.0
