use Rattle.std.proofs.Common.{map}
use Rattle.ly_resolve.specs.Private.Shifts.{AreShifts}
use Rattle.ly_resolve.specs.Values.{terminal_action_from}
use Rattle.ly_resolve.proofs.shifting.list_shifts.Given as goal

-- the shifts before this one are there
abbrev pub invariant-loop-transition : goal.invariant-loop-transition
invariant-loop-transition l = AreShifts l.lr0 l.fn.state.0 l.transition-index (map terminal_action_from l.row.items)
