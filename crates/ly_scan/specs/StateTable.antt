-- A scanner as plain data.
use Rattle.std.specs.Prelude.{◌≡◌, ◌<◌, ◌*◌, ℕ, List, length, Bool, Option, Some, None, IfSome, if◌then◌else◌}
use Rattle.std.specs.Prelude.{nat_lt, option_map}
use Rattle.std.specs.Prelude.{option_and_then, slice_get, slice_index_or, unwrap_or}
use Rattle.ly_base.specs.declared.cut.Cut.{Cut}
use Rattle.ly_base.specs.declared.cut.Cut.TheVariants.{Whole}
use Rattle.ly_base.specs.declared.numbers.RuleNo.{RuleNo}
use Rattle.ly_scan.specs.declared.starts.Starts.{Starts}
use Rattle.ly_scan.specs.StateRows.{row_entry, row_width, state_at, Begins}
use Rattle.ly_scan.specs.StateWalk.{States, ahead_of}
use Rattle.ly_scan.specs.Walk.{Walk}
use Rattle.ly_scan.specs.declared.scanner_parts.ScannerParts.{ScannerParts}
use Rattle.ly_scan.specs.declared.state_rows.RowStart.{RowStart}

-- The start states of each condition; the transitions, row after row with an entry for each byte; the rule of each
-- state, if it has one; and the cut of each rule.
pub record StateTable : Type 0 where
  pub starts : List Starts
  pub rows : List (Option ℕ)
  pub rules : List (Option RuleNo)
  pub cuts : List Cut

abbrev pub start_by : Bool → Starts → Option ℕ
start_by line c = option_map (λ s. s.0) (if line then c.at_line else c.elsewhere)

-- the start state of a condition, at the start of a line or not, if it has one
abbrev pub start_at : StateTable → ℕ → Bool → Option ℕ
start_at t condition line = option_and_then (start_by line) (slice_get t.starts condition)

-- the target of a byte from a state
abbrev pub next_at : StateTable → ℕ → ℕ → Option ℕ
next_at t state byte = if nat_lt byte 256 then row_entry t.rows state byte else None

-- the rule of a state, if it has one
abbrev pub rule_at : StateTable → ℕ → Option ℕ
rule_at t state = option_map (λ r. r.0) (slice_index_or t.rules state None)

abbrev pub states_of : StateTable → States
states_of t = record { start = start_at t; next = next_at t; rule = rule_at t }

-- the cut of a rule; a missing rule has no trailing context
abbrev pub cut_at : StateTable → ℕ → Cut
cut_at t rule = unwrap_or (slice_get t.cuts rule) Whole

-- the results of a walk for the bytes that follow its state
abbrev pub ahead_at : StateTable → RowStart → Walk
ahead_at t at = ahead_of (states_of t) (Some (state_at at))

-- the same from a state by its number
abbrev pub ahead_in : StateTable → ℕ → Walk
ahead_in t state = ahead_of (states_of t) (Some state)

-- a walk can be in this state
abbrev pub StandsIn : StateTable → RowStart → Type 0
StandsIn t at = Begins at × (state_at at < length t.rules)

-- Each state has a row, and the targets of conditions and rows exist.
pub record LeadsWithin (t : StateTable) : Type 0 where
  pub full : length t.rows ≡ length t.rules * row_width
  pub starts : (condition : ℕ) (line : Bool) → IfSome (start_at t condition line) (λ s. s < length t.rules)
  pub targets : (state byte : ℕ) → byte < 256 → IfSome (row_entry t.rows state byte) (λ next. next < length t.rules)

-- the table of parts
abbrev pub table_from : ScannerParts → StateTable
table_from p = record { starts = p.starts.items; rows = p.rows; rules = p.rules.items; cuts = p.cuts.items }
