use Rattle.std.proofs.Common.{◌≡◌, ◌<◌, ℕ, None, slice_index_or}
use Rattle.ly_join.specs.Grammar.{nonterminal, symbol_of}
use Rattle.ly_pack.specs.Rows.{dense_entry}
use Rattle.ly_relate.proofs.GotoLemmas.{nowhere}
use Rattle.ly_emit.specs.Private.Filling.{AreGotosTo}
use Rattle.ly_emit.proofs.tables.fill_gotos.Given as goal

-- the transitions before this one are put in
abbrev pub invariant-loop-transition : goal.invariant-loop-transition
invariant-loop-transition l = record {
  rows : l.gotos.rows ≡ l.fn.gotos.rows;
  width : l.gotos.width ≡ l.fn.gotos.width;
  filled : AreGotosTo l.lr0 l.state.0 (dense_entry l.gotos);
  seen : (j A : ℕ) → j < l.transition-index
      → symbol_of (slice_index_or l.transition-items j nowhere).symbol ≡ nonterminal A
      → dense_entry l.gotos l.state.0 A ≡ None → ⊥;
}
