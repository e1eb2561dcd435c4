-- The table set of a specification and the automaton of its scanner.
use Rattle.std.specs.Prelude.{◌≡◌, ℕ, ◌*◌, ◌<◌, List, length, map, slice_get, Some, true, false}
use Rattle.ly_emit.specs.Tables.{IsMachineOf}
use Rattle.ly_ere.specs.declared.pattern.Rule.{Rule}
use Rattle.ly_grammar.specs.Reduction.{KeepsUseful}
use Rattle.ly_join.specs.Joined.{Spec}
use Rattle.ly_join.specs.Terminals.{IsOfByte}
use Rattle.ly_lr0.specs.Automaton as parser
use Rattle.ly_pack.specs.Combs.{IsFirstFit}
use Rattle.ly_pack.specs.Machine.{Machine}
use Rattle.ly_pack.specs.Rows.{comb_entry}
use Rattle.ly_pack.specs.Values.{gotos_from}
use Rattle.ly_report.specs.Report.{terminal_name}
use Rattle.ly_subset.specs.Automaton as scanner
use Rattle.ly_subset.specs.Automaton.{next_by_class, start_of}
use Rattle.ly_tables.specs.TableSet.{Starts, TableSet, machine_of}

-- the machine is that of the specification, from this automaton of its useful rules
abbrev pub IsMachineBy : Spec → parser.Lr0Automaton → Machine → Type 0
IsMachineBy s M m = KeepsUseful s.grammar M.grammar × IsMachineOf s M m

-- The rules, conditions, classes and states of the scanner: rules have the actions of the specification and the
-- trailing contexts of their patterns; initial states and transitions are those of the automaton.
pub record IsScannerOf (s : Spec) (rules : List Rule) (A : scanner.Automaton) (set : TableSet) : Type 0 where
  pub actions : map (λ r. r.action) set.scan_rules ≡ s.scanner
  pub cuts : map (λ r. r.cut) set.scan_rules ≡ map (λ r. r.pattern.cut) rules
  pub condition_count : 2 * length set.conditions ≡ A.starts
  pub conditions : (c : ℕ) (x : Starts) → slice_get set.conditions c ≡ Some x
      → (x.elsewhere ≡ start_of A c false) × (x.at_line ≡ start_of A c true)
  pub class_count : set.class_count ≡ A.classes
  pub classes : set.classes ≡ A.class_of
  pub accepted : set.accepted ≡ A.rules
  pub rows : (state class : ℕ) → state < length A.rules → class < A.classes
      → gotos_from (comb_entry set.scan_rows) state class ≡ next_by_class A state class

-- The names of terminals are the printed ones of the specification; each byte has the terminal of its literal; the
-- scanner is that of the rules; the parser's tables are the specification's, with default reductions; and rows are
-- placed by first fit.
pub record IsSetOf (s : Spec) (M : parser.Lr0Automaton) (rules : List Rule) (A : scanner.Automaton) (set : TableSet)
    : Type 0 where
  pub terminals : set.terminals ≡ map terminal_name s.terminals
  pub nonterminals : set.nonterminals ≡ length s.nonterminals
  pub literals : (b t : ℕ) → slice_get set.literals b ≡ Some t → IsOfByte s.terminals b t
  pub scanner : IsScannerOf s rules A set
  pub machine : IsMachineOf s M (machine_of set)
  pub scan_rows : IsFirstFit set.scan_rows
  pub actions : IsFirstFit set.actions
  pub gotos : IsFirstFit set.gotos
