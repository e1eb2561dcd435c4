use Rattle.ly_tables.proofs.RangeLemmas.{All-at}
use Rattle.std.specs.Option.{option_map}
use Rattle.ly_base.specs.declared.numbers.RuleNo.{RuleNo}
use Rattle.ly_tables.specs.Private.Short.{IsCountable}
use Rattle.ly_tables.specs.Ranges.{width_of}
use Rattle.ly_tables.proofs.scanner_part.push_accepted.Goals as goal

pub push_counted-requires : goal.push_counted-requires
push_counted-requires c = All-at (IsCountable (width_of c.args.version)) (option_map (λ (p : RuleNo). p.0))
    c.args.accepted.now
    c.loop-rule.rule-index _ c.loop-rule-test.true c.requires.short
