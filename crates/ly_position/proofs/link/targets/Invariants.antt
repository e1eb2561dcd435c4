use Rattle.std.proofs.Common.{map}
use Rattle.ly_position.specs.Private.Program.{step_of}
use Rattle.ly_position.proofs.NumberLemmas.{Numbered}
use Rattle.ly_position.proofs.link.targets.Given as goal

abbrev pub invariant-loop-instruction : goal.invariant-loop-instruction
invariant-loop-instruction l = Numbered (map step_of l.code) l.instruction-index l.targets.items l.positions l.forks
