use Rattle.std.proofs.Common.{◌≡◌, ◌++◌, drop, map}
use Rattle.std.specs.List.{flat_map}
use Rattle.std.specs.Option.{option_map}
use Rattle.ly_tables.specs.Spelling.{or_zero}
use Rattle.ly_tables.specs.Ranges.{width_of}
use Rattle.ly_tables.proofs.parser_part.push_defaults.Given as goal

-- what is written and what is left are all
abbrev pub invariant-loop-rule : goal.invariant-loop-rule
invariant-loop-rule l = l.out.items ++ flat_map (or_zero (width_of l.version))
    (map (option_map (λ p. p.0)) (drop l.rule-index l.defaults))
    ≡ l.initial.out.items ++ flat_map (or_zero (width_of l.version)) (map (option_map (λ p. p.0)) l.defaults)
