use Rattle.ly_tables.proofs.RangeLemmas.{All-at}
use Rattle.ly_tables.specs.Values.{starts_from}
use Rattle.ly_tables.specs.Private.Short.{AreStartsShort}
use Rattle.ly_tables.specs.Ranges.{width_of}
use Rattle.ly_tables.proofs.scanner_part.push_conditions.Goals as goal

pub push_starts-requires : goal.push_starts-requires
push_starts-requires c = All-at (AreStartsShort (width_of c.args.version)) starts_from c.args.conditions.now
    c.loop-condition.condition-index _
    c.loop-condition-test.true c.requires.short
