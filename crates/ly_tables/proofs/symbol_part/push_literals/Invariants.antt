use Rattle.std.proofs.Common.{◌≡◌, ◌++◌, drop, map}
use Rattle.std.specs.List.{flat_map}
use Rattle.ly_tables.specs.Spelling.{number}
use Rattle.ly_tables.specs.Ranges.{width_of}
use Rattle.ly_tables.proofs.symbol_part.push_literals.Given as goal

-- what is written and what is left are all
abbrev pub invariant-loop-literal : goal.invariant-loop-literal
invariant-loop-literal l = l.out.items ++ flat_map (number (width_of l.version)) (map (λ t. t.0) (drop l.literal-index
    l.literals))
    ≡ l.initial.out.items ++ flat_map (number (width_of l.version)) (map (λ t. t.0) l.literals)
