use Rattle.std.proofs.Common.{[], take}
use Rattle.ly_loop.specs.Private.Edges.{AreTargetsOf}
use Rattle.ly_loop.proofs.edges.targets.Given as goal

-- the targets of the entries so far are listed
abbrev pub invariant-loop-cell : goal.invariant-loop-cell
invariant-loop-cell l = AreTargetsOf (take l.cell-index l.entries) [] l.targets.items

-- and those of the gotos so far
abbrev pub invariant-loop-led : goal.invariant-loop-led
invariant-loop-led l = AreTargetsOf l.entries (take l.led-index l.gotos) l.targets.items
