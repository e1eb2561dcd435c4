use Rattle.std.proofs.Common.{map, take}
use Rattle.ly_yaccread.specs.File.{declared_of}
use Rattle.ly_join.specs.Precedences.{given}
use Rattle.ly_join.specs.Private.Rules.{AreGiven}
use Rattle.ly_join.proofs.rank.precedences.Given as goal

abbrev pub invariant-loop-level : goal.invariant-loop-level
invariant-loop-level l = AreGiven (given (take l.level (map declared_of l.declarations))) l.terminals l.given.items
