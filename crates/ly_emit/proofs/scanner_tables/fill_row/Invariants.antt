use Rattle.std.proofs.Common.{◌≡◌, ◌<◌, ℕ, length}
use Rattle.ly_pack.specs.Rows.{dense_entry}
use Rattle.ly_emit.specs.Private.Listing.{AreNextTo, IsNextAt}
use Rattle.ly_emit.proofs.scanner_tables.fill_row.Given as goal

-- the classes before this one are filled in
abbrev pub invariant-loop-class : goal.invariant-loop-class
invariant-loop-class l = record {
  rows : l.rows.rows ≡ length l.dfa.rules;
  width : l.rows.width ≡ l.dfa.classes;
  before : AreNextTo l.dfa l.state (dense_entry l.rows);
  these : (class : ℕ) → class < l.class → IsNextAt l.dfa (dense_entry l.rows) l.state class;
}
