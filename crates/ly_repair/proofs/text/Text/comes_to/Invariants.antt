use Rattle.std.proofs.Common.{ℕ, ◌+◌, ◌-◌}
use Rattle.ly_repair.specs.Private.Stacks.{IsGrown, stack_of}
use Rattle.ly_repair.specs.Private.Text.{IsStackAt, after}
use Rattle.ly_repair.specs.Runs.{Holds}
use Rattle.ly_repair.proofs.text.Text.comes_to.Given as goal

-- what holds from here holds from the place, with the terminals read so far
abbrev pub invariant-loop-index : goal.invariant-loop-index
invariant-loop-index g l = record {
  grown : IsGrown l.fn.runs.stacks l.runs.stacks;
  at : IsStackAt l.self.machine l.runs.stacks l.at.0;
  back : (n : ℕ) → Holds l.self.machine n (stack_of l.runs.stacks l.at.0) (after l.self l.index)
      → Holds l.self.machine (l.index - l.fn.place.taken + n) (stack_of l.fn.runs.stacks l.fn.place.stack.0)
      (after l.self l.fn.place.taken);
  forth : (n : ℕ) → Holds l.self.machine (l.index - l.fn.place.taken + n)
      (stack_of l.fn.runs.stacks l.fn.place.stack.0) (after l.self l.fn.place.taken)
      → Holds l.self.machine n (stack_of l.runs.stacks l.at.0) (after l.self l.index);
}
