use Rattle.std.proofs.Common.{◌≡◌, ◌<◌, drop, length}
use Rattle.ly_repair.specs.Private.Stacks.{stack_of}
use Rattle.ly_repair.proofs.stacks.Stacks.without.Given as goal

abbrev pub invariant-loop : goal.invariant-loop
invariant-loop l = record {
  within : l.at.0 < length l.self;
  left : stack_of l.self l.at.0 ≡ drop l.counter (stack_of l.self l.fn.at.0);
}
