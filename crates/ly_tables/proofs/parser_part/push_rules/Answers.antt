use Rattle.ly_pack.specs.Values.{rule_from}
use Rattle.ly_tables.specs.Private.Short.{IsRuleWritten}
use Rattle.ly_tables.proofs.RangeLemmas.{All-item}
use Rattle.ly_tables.specs.Ranges.{width_of}
use Rattle.ly_tables.proofs.parser_part.push_rules.Goals as goal

pub push_rule-requires : goal.push_rule-requires
push_rule-requires c = All-item (IsRuleWritten (width_of c.args.version)) rule_from c.args.rules.now
    c.loop-rule.rule-index c.rule-item.result
    c.loop-rule-test.true c.rule-item.is c.requires.short
