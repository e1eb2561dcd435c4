use Rattle.std.proofs.Common.{◌≡◌, map, take}
use Rattle.ly_pack.specs.Values.{rule_from}
use Rattle.ly_places.specs.Shapes.{keeping_rule}
use Rattle.ly_places.proofs.keeping.keeping_rules.Given as goal

-- the first rules are kept
abbrev pub invariant-loop-rule : goal.invariant-loop-rule
invariant-loop-rule l =
    map rule_from l.kept.items ≡ map keeping_rule (map rule_from (take l.rule-index l.rules))
