use Rattle.std.proofs.Common.{◌≡◌, ◌++◌, drop, map}
use Rattle.std.specs.List.{flat_map}
use Rattle.ly_tables.specs.Spelling.{scan_rule}
use Rattle.ly_tables.specs.Values.{scan_rule_from}
use Rattle.ly_tables.specs.Ranges.{width_of}
use Rattle.ly_tables.proofs.scanner_part.push_scan_rules.Given as goal

-- what is written and what is left are all
abbrev pub invariant-loop-rule : goal.invariant-loop-rule
invariant-loop-rule l = l.out.items ++ flat_map (scan_rule (width_of l.version)) (map scan_rule_from (drop l.rule-index
    l.rules))
    ≡ l.initial.out.items ++ flat_map (scan_rule (width_of l.version)) (map scan_rule_from l.rules)
