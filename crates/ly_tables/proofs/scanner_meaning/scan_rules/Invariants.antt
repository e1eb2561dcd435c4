use Rattle.std.proofs.Common.{◌≡◌, take, map}
use Rattle.ly_tables.specs.Private.Meaning.{scan_rule_meant}
use Rattle.ly_tables.specs.Private.RawValues.{scan_rule_raw}
use Rattle.ly_tables.specs.Values.{scan_rule_from}
use Rattle.ly_tables.specs.Ranges.{width_of}
use Rattle.ly_tables.proofs.scanner_meaning.scan_rules.Given as goal

-- those so far
abbrev pub invariant-loop-rule : goal.invariant-loop-rule
invariant-loop-rule l = map scan_rule_from l.out.items
    ≡ map (scan_rule_meant (width_of l.version)) (map scan_rule_raw (take l.rule-index l.rules))
