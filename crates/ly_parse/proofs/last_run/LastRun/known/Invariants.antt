use Rattle.std.proofs.Common.{take}
use Rattle.ly_parse.specs.Private.LastRun.{AreAlike}
use Rattle.ly_parse.proofs.last_run.LastRun.known.Given as goal

-- the states so far do the same on both terminals
abbrev pub invariant-loop-state : goal.invariant-loop-state
invariant-loop-state g l = AreAlike l.machine l.last.0 l.terminal.0 (take l.state-index l.self.met.members)
