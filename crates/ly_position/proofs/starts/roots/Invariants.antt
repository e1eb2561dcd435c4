use Rattle.std.proofs.Common.{length, take}
use Rattle.ly_position.specs.Private.Starts.{AreRoots}
use Rattle.ly_position.proofs.starts.roots.Given as goal

-- the rules so far are in their lists
abbrev pub invariant-loop-number : goal.invariant-loop-number
invariant-loop-number l = AreRoots l.rules l.program.entries.items (take l.number-index l.number-items) l.conditions
    (length l.program.instructions.items) l.roots
