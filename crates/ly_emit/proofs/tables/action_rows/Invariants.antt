use Rattle.std.proofs.Common.{◌≡◌, length}
use Rattle.ly_pack.specs.Rows.{dense_entry}
use Rattle.ly_resolve.specs.Precedence.{judge_of}
use Rattle.ly_emit.specs.Private.Filling.{AreActionsTo}
use Rattle.ly_emit.proofs.tables.action_rows.Given as goal

-- the states before this one are filled in
abbrev pub invariant-loop-state : goal.invariant-loop-state
invariant-loop-state l = record {
  rows : l.actions.rows ≡ length l.resolved.automaton.states;
  width : l.actions.width ≡ l.resolved.automaton.grammar.terminals;
  filled : AreActionsTo l.resolved.automaton (judge_of l.resolved.spec) l.state (dense_entry l.actions);
}
