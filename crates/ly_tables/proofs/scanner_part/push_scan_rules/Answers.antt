use Rattle.ly_tables.proofs.RangeLemmas.{All-at}
use Rattle.ly_tables.specs.Values.{scan_rule_from}
use Rattle.ly_tables.specs.Private.Short.{IsScanRuleShort}
use Rattle.ly_tables.specs.Ranges.{width_of}
use Rattle.ly_tables.proofs.scanner_part.push_scan_rules.Goals as goal

pub push_scan_rule-requires : goal.push_scan_rule-requires
push_scan_rule-requires c = All-at (IsScanRuleShort (width_of c.args.version)) scan_rule_from c.args.rules.now
    c.loop-rule.rule-index _
    c.loop-rule-test.true c.requires.short
