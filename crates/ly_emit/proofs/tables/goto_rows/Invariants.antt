use Rattle.std.proofs.Common.{◌≡◌, length}
use Rattle.ly_pack.specs.Rows.{dense_entry}
use Rattle.ly_emit.specs.Private.Filling.{AreGotosTo}
use Rattle.ly_emit.proofs.tables.goto_rows.Given as goal

-- the states before this one are filled in
abbrev pub invariant-loop-state : goal.invariant-loop-state
invariant-loop-state l = record {
  rows : l.gotos.rows ≡ length l.lr0.states;
  width : l.gotos.width ≡ l.lr0.grammar.accept;
  filled : AreGotosTo l.lr0 l.state (dense_entry l.gotos);
}
