use Rattle.std.proofs.Common.{◌≡◌, ◌+◌, ◌*◌, length}
use Rattle.ly_pack.specs.Machine.{action_of, IsLegal}
use Rattle.ly_pack.specs.Steady.{run_bound}
use Rattle.ly_pack.specs.SteadyLaws.{reductions}
use Rattle.ly_pack.specs.Values.{action_from}
use Rattle.ly_parse.specs.Feeding.{states_on, top_of}
use Rattle.ly_parse.specs.Private.Before.{before_on, IsNoteOf, IsOpen}
use Rattle.ly_parse.proofs.SettleLemmas.{IsWithinRun}
use Rattle.ly_parse.proofs.running.Running.settle_behind.Given as goal

abbrev pub invariant-loop-next : goal.invariant-loop-next
invariant-loop-next g l = record {
  run : IsWithinRun l.fn.self.machine l.terminal.0 ((run_bound + 1) * length (states_on l.fn.self.stack))
      l.fn.self.stack l.self.stack;
  machine : l.self.machine ≡ l.fn.self.machine;
  action : action_from l.next ≡ action_of l.fn.self.machine (top_of l.self.stack) l.terminal.0;
  legal : IsLegal l.fn.self.machine l.terminal.0 (action_from l.next);
  count : l.self.count ≡ l.fn.self.count;
  over : l.self.over ≡ l.fn.self.over;
  noted : IsOpen (action_from l.next) → IsNoteOf (before_on l.fn.self.stack l.fn.before) l.self.stack l.before;
}

abbrev pub decreases-loop-next : goal.decreases-loop-next
decreases-loop-next g l =
    reductions l.fn.self.machine l.terminal.0 ((run_bound + 1) * length (states_on l.fn.self.stack))
    (states_on l.self.stack)
