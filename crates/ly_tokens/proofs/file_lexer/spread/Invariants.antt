use Rattle.std.proofs.Common.{◌≡◌, ◌<◌, ◌*◌, ℕ, Some, length}
use Rattle.std.specs.Prelude.{IfSome}
use Rattle.ly_scan.specs.StateRows.{row_entry, row_width}
use Rattle.ly_subset.specs.Automaton.{next_of}
use Rattle.ly_tokens.proofs.file_lexer.spread.Given as goal

-- the entries of the rows before this one are there
abbrev pub invariant-loop-state : goal.invariant-loop-state
invariant-loop-state l = record {
  count : length l.rows ≡ length l.dfa.rules * row_width;
  same : (state byte : ℕ) → state < l.state → byte < 256
      → (row_entry l.rows state byte ≡ next_of l.dfa (Some state) byte)
      × IfSome (row_entry l.rows state byte) (λ next. next < length l.dfa.rules);
}

-- and in this one those of the bytes before this
abbrev pub invariant-loop-byte : goal.invariant-loop-byte
invariant-loop-byte l = record {
  count : length l.rows ≡ length l.dfa.rules * row_width;
  same : (state byte : ℕ) → state < l.state → byte < 256
      → (row_entry l.rows state byte ≡ next_of l.dfa (Some state) byte)
      × IfSome (row_entry l.rows state byte) (λ next. next < length l.dfa.rules);
  here : (byte : ℕ) → byte < l.byte
      → (row_entry l.rows l.state byte ≡ next_of l.dfa (Some l.state) byte)
      × IfSome (row_entry l.rows l.state byte) (λ next. next < length l.dfa.rules);
}
