use Rattle.std.proofs.Common.{map}
use Rattle.ly_pack.specs.Values.{rule_from}
use Rattle.ly_emit.specs.Private.Filling.{AreRulesTo}
use Rattle.ly_emit.proofs.tables.table_rules.Given as goal

-- the rules before this one are there
abbrev pub invariant-loop-number : goal.invariant-loop-number
invariant-loop-number l = AreRulesTo l.spec l.number (map rule_from l.rules.items)
