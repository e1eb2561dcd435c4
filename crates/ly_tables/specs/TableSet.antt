-- Everything that a driver needs of two files: a table set.
use Rattle.std.specs.Prelude.{ℕ, List, Option, length}
use Rattle.ly_base.specs.declared.cut.Cut.{Cut}
use Rattle.ly_base.specs.declared.scan_action.ScanAction.{ScanAction}
use Rattle.ly_base.specs.declared.numbers.StateNo.{StateNo}
use Rattle.ly_pack.specs.Machine.{Machine, TableRule}
use Rattle.ly_pack.specs.Rows.{Comb, comb_entry, grid_of}
use Rattle.ly_pack.specs.Values.{actions_from, gotos_from}
use Rattle.ly_pack.specs.declared.action.TableAction as code

-- A rule of the scanner: its effect when it matches, and its trailing context.
pub record ScanRule : Type 0 where
  pub action : ScanAction
  pub cut : Cut

-- The initial states of a condition: at the start of a line, and elsewhere.
pub record Starts : Type 0 where
  pub elsewhere : Option ℕ
  pub at_line : Option ℕ

-- The printed names of terminals, the terminal of each byte as a literal, the scanner's rules, conditions, classes,
-- states and rows, and the parser's tables.
pub record TableSet : Type 0 where
  pub terminals : List (List ℕ)
  pub nonterminals : ℕ
  pub literals : List ℕ
  pub scan_rules : List ScanRule
  pub conditions : List Starts
  pub class_count : ℕ
  pub classes : List ℕ
  pub accepted : List (Option ℕ)
  pub scan_rows : Comb StateNo
  pub rules : List TableRule
  pub defaults : List (Option ℕ)
  pub actions : Comb code.TableAction
  pub gotos : Comb StateNo

-- the parser's tables of a set
abbrev pub machine_of : TableSet → Machine
machine_of s = record {
  terminals = length s.terminals;
  nonterminals = s.nonterminals;
  actions = grid_of (length s.defaults) (length s.terminals) (actions_from (comb_entry s.actions));
  defaults = s.defaults;
  gotos = grid_of (length s.defaults) s.nonterminals (gotos_from (comb_entry s.gotos));
  rules = s.rules;
}
