use Rattle.std.proofs.Common.{map}
use Rattle.ly_position.specs.Private.Program.{step_of}
use Rattle.ly_position.specs.Private.Plain.{listed}
use Rattle.ly_position.specs.Private.Compile.{IsProgram}
use Rattle.ly_position.proofs.program.compile.Given as goal

abbrev pub invariant-loop-number : goal.invariant-loop-number
invariant-loop-number l
    = IsProgram (listed l.plan.plain l.plan.parts.items) l.number (map step_of l.program.instructions.items)
    l.program.entries.items
