use Rattle.std.proofs.Common.{◌≡◌, ◌<◌, ◌++◌, length, take}
use Rattle.ly_repair.specs.Private.Stacks.{IsGrown, stack_of}
use Rattle.ly_repair.specs.Values.{upward}
use Rattle.ly_repair.proofs.unfinished.Unfinished.finish.Given as goal

abbrev pub invariant-loop-state : goal.invariant-loop-state
invariant-loop-state l = record {
  grown : IsGrown l.fn.stacks l.stacks;
  within : l.at.0 < length l.stacks;
  raised : stack_of l.stacks l.at.0
      ≡ upward (take l.state-index l.self.above.items) ++ stack_of l.fn.stacks l.self.lower.0;
}
