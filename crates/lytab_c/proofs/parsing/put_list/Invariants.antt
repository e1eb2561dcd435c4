use Rattle.std.proofs.Common.{◌≡◌, ◌++◌, drop, take}
use Rattle.lytab_c.specs.Parsing.{listed}
use Rattle.lytab_c.proofs.parsing.put_list.Given as goal

abbrev pub invariant-loop-index : goal.invariant-loop-index
invariant-loop-index l = l.block ≡ listed 0 (take l.index l.list) ++ drop l.index l.initial.block
