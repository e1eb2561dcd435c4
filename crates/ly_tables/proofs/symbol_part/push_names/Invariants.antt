use Rattle.std.proofs.Common.{◌≡◌, ◌++◌, drop, map}
use Rattle.std.specs.List.{flat_map}
use Rattle.ly_tables.specs.Spelling.{string}
use Rattle.ly_tables.proofs.symbol_part.push_names.Given as goal

-- what is written and what is left are all
abbrev pub invariant-loop-name : goal.invariant-loop-name
invariant-loop-name l = l.out.items ++ flat_map string (map (λ name. name.items) (drop l.name-index l.names))
    ≡ l.initial.out.items ++ flat_map string (map (λ name. name.items) l.names)
