use Rattle.std.proofs.Common.{◌≡◌, ◌<◌, ℕ, None, Some, map, slice_get}
use Rattle.ly_pack.specs.Rows.{dense_entry}
use Rattle.ly_resolve.specs.Precedence.{judge_of}
use Rattle.ly_resolve.specs.Resolved.{TerminalAction}
use Rattle.ly_resolve.specs.Values.{terminal_action_from}
use Rattle.ly_emit.specs.Private.Filling.{AreActionsTo}
use Rattle.ly_emit.proofs.tables.fill_actions.Given as goal

-- the entries before this one are put in
abbrev pub invariant-loop-entry : goal.invariant-loop-entry
invariant-loop-entry l = record {
  rows : l.actions.rows ≡ l.fn.actions.rows;
  width : l.actions.width ≡ l.fn.actions.width;
  filled : AreActionsTo l.resolved.automaton (judge_of l.resolved.spec) l.state.0 (dense_entry l.actions);
  seen : (j : ℕ) (x : TerminalAction) → j < l.entry-index → slice_get (map terminal_action_from l.row) j ≡ Some x
      → dense_entry l.actions l.state.0 x.terminal ≡ None → ⊥;
}
