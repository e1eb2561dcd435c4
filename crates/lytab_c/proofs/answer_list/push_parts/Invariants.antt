use Rattle.std.proofs.Common.{◌≡◌, ◌++◌, take}
use Rattle.lytab_c.specs.Parsing.{listed}
use Rattle.lytab_c.proofs.answer_list.push_parts.Given as goal

abbrev pub invariant-loop-index : goal.invariant-loop-index
invariant-loop-index l = l.parts.items ≡ l.fn.parts.items ++ listed 0 (take l.index l.list)
