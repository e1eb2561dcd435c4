use Rattle.std.proofs.Common.{◌≡◌, ◌<◌, ◌*◌, ℕ, length}
use Rattle.std.specs.Prelude.{slice_index}
use Rattle.ly_pack.specs.Rows.{comb_entry}
use Rattle.ly_scan.specs.StateRows.{row_entry, row_width}
use Rattle.ly_feed.specs.ScanPart.{states_from}
use Rattle.ly_feed.proofs.lexer_of_set.spread.Given as goal

-- the entries of the rows before this one are there
abbrev pub invariant-loop-state : goal.invariant-loop-state
invariant-loop-state l = record {
  count : length l.rows ≡ l.fn.states * row_width;
  same : (state byte : ℕ) → state < l.state → byte < 256
      → row_entry l.rows state byte ≡ states_from (comb_entry l.comb) state (slice_index l.classes byte);
}

-- and in this one those of the bytes before this
abbrev pub invariant-loop-byte : goal.invariant-loop-byte
invariant-loop-byte l = record {
  count : length l.rows ≡ l.fn.states * row_width;
  same : (state byte : ℕ) → state < l.state.0 → byte < 256
      → row_entry l.rows state byte ≡ states_from (comb_entry l.comb) state (slice_index l.classes byte);
  here : (byte : ℕ) → byte < l.byte
      → row_entry l.rows l.state.0 byte ≡ states_from (comb_entry l.comb) l.state.0 (slice_index l.classes byte);
}
