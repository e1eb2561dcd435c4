use Rattle.std.proofs.Common.{◌≡◌, ◌++◌, drop, map, take}
use Rattle.lytab_c.proofs.parsing.fill.Given as goal

abbrev pub invariant-loop-index : goal.invariant-loop-index
invariant-loop-index l = l.block ≡ map (λ t. t.0) (take l.index l.terminals) ++ drop l.index l.initial.block
