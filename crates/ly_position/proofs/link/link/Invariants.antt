use Rattle.std.proofs.Common.{map, take}
use Rattle.ly_position.specs.Private.Program.{step_of}
use Rattle.ly_position.proofs.NumberLemmas.{LinkedBefore}
use Rattle.ly_position.proofs.link.link.Given as goal

abbrev pub invariant-loop-instruction : goal.invariant-loop-instruction
invariant-loop-instruction l = LinkedBefore (map step_of l.code) (map step_of (take l.instruction-index l.code))
    l.slots.items l.forks.items
