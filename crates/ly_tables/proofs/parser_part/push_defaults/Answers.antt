use Rattle.ly_tables.proofs.RangeLemmas.{All-at}
use Rattle.std.specs.Option.{option_map}
use Rattle.ly_base.specs.declared.numbers.RuleNo.{RuleNo}
use Rattle.ly_tables.specs.Private.Short.{OptionFits}
use Rattle.ly_tables.specs.Ranges.{width_of}
use Rattle.ly_tables.proofs.parser_part.push_defaults.Goals as goal

pub push_default-requires : goal.push_default-requires
push_default-requires c = All-at (OptionFits (width_of c.args.version)) (option_map (λ (p : RuleNo). p.0))
    c.args.defaults.now
    c.loop-rule.rule-index _ c.loop-rule-test.true c.requires.short
