-- The rows of an automaton as a scanner has them in memory.
use Rattle.std.specs.List.{range_with_len}
use Rattle.std.specs.Prelude.{◌≡◌, ◌<◌, ◌*◌, ℕ, List, Option, Some, IfSome, false, length, map, option_map, true}
use Rattle.ly_base.specs.declared.numbers.RuleNo.{RuleNo}
use Rattle.ly_base.specs.declared.numbers.StateNo.{StateNo}
use Rattle.ly_scan.specs.declared.starts.Starts.{Starts}
use Rattle.ly_ere.specs.declared.pattern.Rule.{Rule}
use Rattle.ly_scan.specs.StateRows.{row_entry, row_width}
use Rattle.ly_scan.specs.StateTable.{StateTable}
use Rattle.ly_subset.specs.Automaton.{Automaton, IsAutomaton, next_of, start_of}

-- the state of a number
abbrev pub state_of : ℕ → StateNo
state_of n = record { 0 = n }

-- where a condition begins
abbrev pub begin_of : Automaton → ℕ → Starts
begin_of A condition = record {
  elsewhere = option_map state_of (start_of A condition false);
  at_line = option_map state_of (start_of A condition true);
}

-- the rules are those of the states, one by one
abbrev pub AreRulesOf : Automaton → List (Option RuleNo) → Type 0
AreRulesOf A rules = map (option_map (λ r. r.0)) rules ≡ A.rules

-- the rows hold where each byte leads from each state
abbrev pub AreRowsOf : Automaton → List (Option ℕ) → Type 0
AreRowsOf A rows = (state byte : ℕ) → state < length A.rules → byte < 256
    → (row_entry rows state byte ≡ next_of A (Some state) byte)
    × IfSome (row_entry rows state byte) (λ next. next < length A.rules)

-- The table has the states of an automaton, and the cuts of the rules.
pub record IsTableOf (A : Automaton) (rules : List Rule) (t : StateTable) : Type 0 where
  pub whole : IsAutomaton A
  pub starts : t.starts ≡ map (begin_of A) (range_with_len 0 A.starts)
  pub states : AreRulesOf A t.rules
  pub full : length t.rows ≡ length A.rules * row_width
  pub rows : AreRowsOf A t.rows
  pub cuts : t.cuts ≡ map (λ r. r.pattern.cut) rules
