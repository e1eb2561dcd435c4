use Rattle.std.proofs.Common.{◌≡◌, ◌∷◌, [], map, take}
use Rattle.std.specs.List.{flat_map}
use Rattle.ly_yaccread.specs.File.{declared_of, ruling_of}
use Rattle.ly_join.specs.Numbering.{declared_terminals, rule_literals}
use Rattle.ly_join.specs.Terminals.{end, undefined, same_terminal}
use Rattle.ly_join.specs.Private.Numbering.{with_all}
use Rattle.ly_join.proofs.numbering.number_terminals.Given as goal

abbrev pub invariant-loop-declaration : goal.invariant-loop-declaration
invariant-loop-declaration l = l.terminals ≡ with_all same_terminal (end ∷ undefined ∷ [])
    (flat_map declared_terminals (take l.declaration-index (map declared_of l.declaration-items)))

abbrev pub invariant-loop-production : goal.invariant-loop-production
invariant-loop-production l = l.terminals ≡ with_all same_terminal l.initial.terminals
    (flat_map rule_literals (take l.production-index (map ruling_of l.production-items)))
