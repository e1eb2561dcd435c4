use Rattle.std.proofs.Common.{◌≡◌, ℕ, ◌<◌, ◌+◌, ◌*◌, List, length}
use Rattle.ly_pack.specs.Steady.{EndsWithin, run_bound}
use Rattle.ly_pack.specs.SteadyLaws.{reductions}
use Rattle.ly_repair.specs.Private.Stacks.{now_of, stack_of}
use Rattle.ly_repair.specs.Runs.{Accepts, IsStackOf, Reads}
use Rattle.ly_repair.proofs.text.Text.run.Given as goal

-- the run so far ends, and what is read or accepted from here is from the start
abbrev pub invariant-loop-state : goal.invariant-loop-state
invariant-loop-state g l = record {
  lower : l.stack.lower.0 < length l.runs.stacks;
  stacks : l.runs.stacks ≡ l.fn.runs.stacks;
  is : IsStackOf l.machine (now_of l.runs.stacks l.stack);
  ends : EndsWithin l.machine l.terminal.0 (now_of l.runs.stacks l.stack)
      ((run_bound + 1) * length (stack_of l.fn.runs.stacks l.fn.at.0));
  back : (next : List ℕ) → Reads l.machine l.terminal.0 (now_of l.runs.stacks l.stack) next
      → Reads l.machine l.terminal.0 (stack_of l.fn.runs.stacks l.fn.at.0) next;
  forth : (next : List ℕ) → Reads l.machine l.terminal.0 (stack_of l.fn.runs.stacks l.fn.at.0) next
      → Reads l.machine l.terminal.0 (now_of l.runs.stacks l.stack) next;
  back_accepts : l.terminal.0 ≡ 0 → Accepts l.machine (now_of l.runs.stacks l.stack)
      → Accepts l.machine (stack_of l.fn.runs.stacks l.fn.at.0);
  forth_accepts : l.terminal.0 ≡ 0 → Accepts l.machine (stack_of l.fn.runs.stacks l.fn.at.0)
      → Accepts l.machine (now_of l.runs.stacks l.stack);
}

abbrev pub decreases-loop-state : goal.decreases-loop-state
decreases-loop-state g l = reductions l.machine l.terminal.0
    ((run_bound + 1) * length (stack_of l.fn.runs.stacks l.fn.at.0)) (now_of l.runs.stacks l.stack)
