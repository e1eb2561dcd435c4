use Rattle.std.proofs.Common.{◌≡◌, length}
use Rattle.ly_pack.specs.Rows.{dense_entry}
use Rattle.ly_emit.specs.Private.Listing.{AreNextTo}
use Rattle.ly_emit.proofs.scanner_tables.dense_rows.Given as goal

-- the states before this one are filled in
abbrev pub invariant-loop-state : goal.invariant-loop-state
invariant-loop-state l = record {
  rows : l.rows.rows ≡ length l.dfa.rules;
  width : l.rows.width ≡ l.dfa.classes;
  filled : AreNextTo l.dfa l.state (dense_entry l.rows);
}
