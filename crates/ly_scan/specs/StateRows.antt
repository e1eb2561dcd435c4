-- The rows of a scanner's states, spread for fast walks.
use Rattle.std.specs.Prelude.{◌≡◌, ℕ, ◌+◌, ◌*◌, ◌/◌, List, Option, option_and_then, slice_get}
use Rattle.ly_scan.specs.declared.state_rows.RowStart.{RowStart}

-- The number of entries of a row: one for each byte, and some without a target. With these the entries of one column,
-- which a run of equal bytes visits, don't compete for the same lines of a processor's cache.
abbrev pub row_width : ℕ
row_width = 272

-- the target of a column from a state, in rows that are stored one after another
abbrev pub row_entry : List (Option ℕ) → ℕ → ℕ → Option ℕ
row_entry rows state column = option_and_then (λ next. next) (slice_get rows (state * row_width + column))

-- the state whose row begins here
abbrev pub state_at : RowStart → ℕ
state_at r = r.start / row_width

-- a row begins here
abbrev pub Begins : RowStart → Type 0
Begins r = state_at r * row_width ≡ r.start
