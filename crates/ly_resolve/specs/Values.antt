-- Actions, entries and conflicts, as contracts see them.
use Rattle.std.specs.Prelude.{◌<◌, List, Bool, true, false, length, map}
use Rattle.ly_join.specs.Joined.{Spec}
use Rattle.ly_lr0.specs.Automaton.{Lr0Automaton, prefix_of}
use Rattle.ly_resolve.specs.Actions.{Action, error, reduce, shift}
use Rattle.ly_resolve.specs.Conflicts.{Conflict, Kind, reduce_reduce, shift_reduce}
use Rattle.ly_resolve.specs.Resolved.{TerminalAction, Resolved}
use Rattle.ly_resolve.specs.declared.action.Action as action
use Rattle.ly_resolve.specs.declared.action.Action.TheVariants.{Shift, Reduce, Error}
use Rattle.ly_resolve.specs.declared.action.TerminalAction as entry
use Rattle.ly_resolve.specs.declared.conflict.Conflict as conflict
use Rattle.ly_resolve.specs.declared.conflict.ConflictKind as kind
use Rattle.ly_resolve.specs.declared.conflict.ConflictKind.TheVariants.{ShiftReduce, ReduceReduce}

abbrev pub action_from : action.Action → Action
action_from Shift = shift
action_from (Reduce p) = reduce p.0
action_from Error = error

abbrev pub terminal_action_from : entry.TerminalAction → TerminalAction
terminal_action_from x = record { terminal = x.terminal.0; action = action_from x.action }

abbrev pub kind_from : kind.ConflictKind → Kind
kind_from ShiftReduce = shift_reduce
kind_from ReduceReduce = reduce_reduce

-- whether two kinds are the same
abbrev pub same_kind : kind.ConflictKind → kind.ConflictKind → Bool
same_kind ShiftReduce ShiftReduce = true
same_kind ReduceReduce ReduceReduce = true
same_kind _ _ = false

-- a conflict in a state, as a conflict at its prefix
abbrev pub conflict_from : Lr0Automaton → conflict.Conflict → Conflict
conflict_from M c = record {
  prefix = prefix_of M c.state.0;
  terminal = c.terminal.0;
  kind = kind_from c.kind;
  rule = c.rule.0;
  choice = action_from c.choice;
}

-- the conflict is in one of the states, before one of the terminals
pub record IsInside (M : Lr0Automaton) (c : conflict.Conflict) : Type 0 where
  pub state : c.state.0 < length M.states
  pub terminal : c.terminal.0 < M.grammar.terminals

abbrev pub resolved_from : Spec → Lr0Automaton → List (List TerminalAction) → List conflict.Conflict → Bool → Resolved
resolved_from s M rows conflicts free = record {
  spec = s;
  automaton = M;
  rows = rows;
  conflicts = map (conflict_from M) conflicts;
  conflict_free = free;
}
