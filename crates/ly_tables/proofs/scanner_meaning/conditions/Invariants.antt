use Rattle.std.proofs.Common.{◌≡◌, take, map}
use Rattle.ly_tables.specs.Private.Meaning.{starts_meant}
use Rattle.ly_tables.specs.Private.RawValues.{starts_raw}
use Rattle.ly_tables.specs.Values.{starts_from}
use Rattle.ly_tables.specs.Ranges.{width_of}
use Rattle.ly_tables.proofs.scanner_meaning.conditions.Given as goal

-- those so far
abbrev pub invariant-loop-condition : goal.invariant-loop-condition
invariant-loop-condition l = map starts_from l.out.items
    ≡ map (starts_meant (width_of l.version)) (map starts_raw (take l.condition-index l.conditions))
