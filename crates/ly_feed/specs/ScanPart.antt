-- The scanner of a table set.
use Rattle.std.specs.Prelude.{ℕ, List, length, slice_get, slice_index, slice_index_or, Bool, Option, None, unwrap_or}
use Rattle.std.specs.Prelude.{Some, option_and_then, option_map, if◌then◌else◌}
use Rattle.ly_base.specs.declared.cut.Cut.{Cut}
use Rattle.ly_base.specs.declared.cut.Cut.TheVariants.{Whole}
use Rattle.ly_base.specs.declared.numbers.StateNo.{StateNo}
use Rattle.ly_base.specs.declared.scan_action.Emitted.{Emitted}
use Rattle.ly_base.specs.declared.scan_action.Emitted.TheVariants.{FirstByte, Nothing, Terminal}
use Rattle.ly_pack.specs.Rows.{Entries, Grid, cell, comb_entry, grid_of}
use Rattle.ly_scan.specs.Lexer.{Scanner}
use Rattle.ly_scan.specs.StateWalk.{States, state_walk}
use Rattle.ly_tables.specs.TableSet.{ScanRule, Starts, TableSet}

-- The terminal of each byte as a literal, the rules, the conditions, the class of each byte, the rule of each state,
-- and the transitions of states by classes.
pub record ScanPart : Type 0 where
  pub literals : List ℕ
  pub rules : List ScanRule
  pub conditions : List Starts
  pub classes : List ℕ
  pub accepted : List (Option ℕ)
  pub rows : Grid ℕ

abbrev pub states_from : Entries StateNo → Entries ℕ
states_from entries state class = option_map (λ s. s.0) (entries state class)

-- the scanner of a table set
abbrev pub scan_part_of : TableSet → ScanPart
scan_part_of s = record {
  literals = s.literals;
  rules = s.scan_rules;
  conditions = s.conditions;
  classes = s.classes;
  accepted = s.accepted;
  rows = grid_of (length s.accepted) s.class_count (states_from (comb_entry s.scan_rows));
}

abbrev pub start_by : Bool → Starts → Option ℕ
start_by line c = if line then c.at_line else c.elsewhere

-- the initial state of a condition, at the start of a line or not, if there is one
abbrev pub start_in : ScanPart → ℕ → Bool → Option ℕ
start_in p condition line = option_and_then (start_by line) (slice_get p.conditions condition)

-- the target of a byte from a state, by its class
abbrev pub next_in : ScanPart → ℕ → ℕ → Option ℕ
next_in p state byte = option_and_then (cell p.rows state) (slice_get p.classes byte)

-- the rule of a state, if it has one
abbrev pub rule_in : ScanPart → ℕ → Option ℕ
rule_in p state = slice_index_or p.accepted state None

abbrev pub states_in : ScanPart → States
states_in p = record { start = start_in p; next = next_in p; rule = rule_in p }

-- the trailing context of a rule
abbrev pub cut_in : ScanPart → ℕ → Cut
cut_in p i = unwrap_or (option_map (λ r. r.cut) (slice_get p.rules i)) Whole

abbrev pub scanner_in : ScanPart → Scanner
scanner_in p = record { walk = state_walk (states_in p); cut = cut_in p }

-- the condition that a rule sets, if it sets one
abbrev pub condition_in : ScanPart → ℕ → Option ℕ
condition_in p i = option_and_then (λ r. r.action.begin) (slice_get p.rules i)

abbrev pub terminal_by : ScanPart → List ℕ → Emitted → Option ℕ
terminal_by p bytes Nothing = None
terminal_by p bytes (Terminal t) = Some t.0
terminal_by p bytes FirstByte = slice_get p.literals (slice_index bytes 0)

-- the terminal that a rule returns for these bytes, if it returns one
abbrev pub terminal_in : ScanPart → ℕ → List ℕ → Option ℕ
terminal_in p i bytes = option_and_then (λ r. terminal_by p bytes r.action.emits) (slice_get p.rules i)
