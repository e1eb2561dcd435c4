use Rattle.std.proofs.Common.{◌≡◌, take}
use Rattle.ly_lr0.proofs.found.Found.begun_row.Given as goal

-- the transitions before this one are there
abbrev pub invariant-loop-transition : goal.invariant-loop-transition
invariant-loop-transition l = l.transitions.items ≡ take l.transition-index l.transition-items
