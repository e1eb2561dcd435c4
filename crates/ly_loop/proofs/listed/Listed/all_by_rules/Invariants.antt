use Rattle.std.proofs.Common.{take}
use Rattle.ly_loop.specs.Private.Summary.{IsSummaryByAll}
use Rattle.ly_loop.proofs.listed.Listed.all_by_rules.Given as goal

-- the runs that begin by one of the rules so far come to this
abbrev pub invariant-loop-rule : goal.invariant-loop-rule
invariant-loop-rule g l =
    IsSummaryByAll l.self l.tokens l.edge.below.0 l.edge.top.0 (take l.rule-index l.rules) l.all
