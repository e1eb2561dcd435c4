use Rattle.std.proofs.Common.{◌≡◌, length, map, max, take}
use Rattle.std.specs.List.{flat_map}
use Rattle.ly_yaccread.specs.File.{declared_of, ruling_of}
use Rattle.ly_join.specs.Counts.{constructor_length, greatest, token_length}
use Rattle.ly_join.specs.Numbering.{declared_terminals}
use Rattle.ly_join.proofs.limit.longest_name.Given as goal

abbrev pub invariant-loop-declaration : goal.invariant-loop-declaration
invariant-loop-declaration l = l.longest ≡ greatest (map token_length
    (flat_map declared_terminals (take l.declaration-index (map declared_of l.declaration-items))))

abbrev pub invariant-loop-rule : goal.invariant-loop-rule
invariant-loop-rule l = l.longest ≡ max l.initial.longest
    (greatest (take l.rule-index (map (λ r. max (length r.left) (constructor_length r.making))
    (map ruling_of l.rule-items))))
