use Rattle.std.proofs.Common.{◌≡◌, slice_index_or}
use Rattle.ly_lookahead.specs.Private.Rows.{AreRows}
use Rattle.ly_lookahead.proofs.rows.first_rows.Given as goal

-- the rows of the states before this one are numbered
abbrev pub invariant-loop-state : goal.invariant-loop-state
invariant-loop-state l = record {
  rows : AreRows l.lr0 l.nodes l.state l.first.items;
  last : slice_index_or l.first.items l.state 0 ≡ l.rows;
}
