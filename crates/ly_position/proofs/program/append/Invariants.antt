use Rattle.std.proofs.Common.{◌≡◌, ◌++◌, length, map}
use Rattle.std.specs.Prelude.{All, reverse, sum_by}
use Rattle.ly_ere.specs.Arena.{part_of}
use Rattle.ly_position.specs.Private.Program.{code, step_of}
use Rattle.ly_position.specs.Private.Compile.{TaskFits, planned, task_work}
use Rattle.ly_position.proofs.program.append.Given as goal

-- what is there and what is planned make the code
abbrev pub invariant-loop-task : goal.invariant-loop-task
invariant-loop-task l = record {
  fits : All (TaskFits (length l.source.plain.now)) l.tasks.items;
  steps : map step_of l.instructions.items ++ planned l.source.plain.now (reverse l.tasks.items)
      (length l.instructions.items)
      ≡ map step_of l.fn.instructions.items ++ code (part_of l.source.plain.now l.fn.part)
      (length l.fn.instructions.items) l.fn.next;
}

abbrev pub decreases-loop-task : goal.decreases-loop-task
decreases-loop-task l = sum_by (task_work l.source.plain.now) l.tasks.items
