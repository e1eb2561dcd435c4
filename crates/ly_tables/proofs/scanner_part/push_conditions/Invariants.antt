use Rattle.std.proofs.Common.{◌≡◌, ◌++◌, drop, map}
use Rattle.std.specs.List.{flat_map}
use Rattle.ly_tables.specs.Spelling.{starts}
use Rattle.ly_tables.specs.Values.{starts_from}
use Rattle.ly_tables.specs.Ranges.{width_of}
use Rattle.ly_tables.proofs.scanner_part.push_conditions.Given as goal

-- what is written and what is left are all
abbrev pub invariant-loop-condition : goal.invariant-loop-condition
invariant-loop-condition l = l.out.items ++ flat_map (starts (width_of l.version))
    (map starts_from (drop l.condition-index l.conditions))
    ≡ l.initial.out.items ++ flat_map (starts (width_of l.version)) (map starts_from l.conditions)
