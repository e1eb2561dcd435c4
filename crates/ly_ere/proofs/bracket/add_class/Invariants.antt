use Rattle.std.proofs.Common.{take}
use Rattle.ly_ere.specs.Private.Brackets.{IsAdded}
use Rattle.ly_ere.proofs.bracket.add_class.Given as goal

abbrev pub invariant-loop-low : goal.invariant-loop-low
invariant-loop-low l = IsAdded l.fn.set l.set (take l.low-index l.ranges)
