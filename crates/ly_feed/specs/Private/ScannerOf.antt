-- A table set's scanner in memory.
use Rattle.std.specs.Prelude.{◌≡◌, ◌<◌, ◌*◌, ℕ, List, Bool, Option, None, IfSome, false, length, map, option_map}
use Rattle.std.specs.Prelude.{slice_index, true}
use Rattle.ly_base.specs.declared.numbers.RuleNo.{RuleNo}
use Rattle.ly_base.specs.declared.scan_action.Emitted.{Emitted}
use Rattle.ly_base.specs.declared.scan_action.Emitted.TheVariants.{Nothing}
use Rattle.ly_feed.specs.ScanPart.{states_from}
use Rattle.ly_pack.specs.Rows.{comb_entry}
use Rattle.ly_scan.specs.StateRows.{row_entry, row_width}
use Rattle.ly_scan.specs.StateTable.{StateTable}
use Rattle.ly_tables.specs.TableSet.{TableSet}
use Rattle.ly_tables.specs.Values.{scan_rule_from, starts_from}
use Rattle.ly_tables.specs.declared.scan_rule.ScanRule as scan
use Rattle.ly_scan.specs.declared.starts.Starts as starts

-- no condition is set, and no terminal is returned
abbrev pub is_no_effect : Option ℕ → Emitted → Bool
is_no_effect None Nothing = true
is_no_effect _ _ = false

-- nothing comes of the lexemes of a rule
abbrev pub is_passed : scan.ScanRule → Bool
is_passed r = is_no_effect r.action.begin r.action.emits

-- A scanner in memory has the parts of a table set's.
pub record IsScannerOf (s : TableSet) (t : StateTable) : Type 0 where
  pub conditions : List starts.Starts
  pub all_conditions : map starts_from conditions ≡ s.conditions
  pub starts : t.starts ≡ conditions
  pub accepted : map (option_map (λ (r : RuleNo). r.0)) t.rules ≡ s.accepted
  pub rules : List scan.ScanRule
  pub all_rules : map scan_rule_from rules ≡ s.scan_rules
  pub cuts : t.cuts ≡ map (λ (r : scan.ScanRule). r.cut) rules
  pub full : length t.rows ≡ length t.rules * row_width
  pub rows : (state byte : ℕ) → state < length t.rules → byte < 256
      → row_entry t.rows state byte ≡ states_from (comb_entry s.scan_rows) state (slice_index s.classes byte)
  pub targets : (state byte : ℕ) → state < length t.rules → byte < 256
      → IfSome (row_entry t.rows state byte) (λ next. next < length t.rules)
