use Rattle.std.proofs.Common.{◌≡◌, ◌<◌, ◌++◌, ◌∷◌, [], length, take}
use Rattle.ly_repair.specs.Private.Stacks.{stack_of}
use Rattle.ly_repair.specs.Values.{upward}
use Rattle.ly_repair.proofs.text.Runs.enter.Given as goal

abbrev pub invariant-loop-state : goal.invariant-loop-state
invariant-loop-state l = record {
  within : l.at.0 < length l.self.stacks;
  raised : stack_of l.self.stacks l.at.0 ≡ upward (take l.state-index l.stack) ++ 0 ∷ [];
}
