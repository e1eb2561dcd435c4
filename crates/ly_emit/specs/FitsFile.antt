-- What a table file of a version can hold of a specification and its automata.
use Rattle.std.specs.Prelude.{◌≡◌, ℕ, ◌+◌, ◌*◌, ◌<◌, ◌≤◌, List, All, Some, length, slice_get}
use Rattle.std.specs.Int.{Width}
use Rattle.ly_base.specs.declared.scan_action.ScanAction.{ScanAction}
use Rattle.ly_base.specs.declared.version.Version.{Version}
use Rattle.ly_emit.specs.Tables.{shape_in}
use Rattle.ly_ere.specs.declared.pattern.Rule as pattern
use Rattle.ly_join.specs.Grammar.{IsRule, GrammarRule}
use Rattle.ly_join.specs.Joined.{Spec}
use Rattle.ly_join.specs.Terminals.{end, undefined}
use Rattle.ly_lr0.specs.Automaton as parser
use Rattle.ly_report.specs.Report.{terminal_name}
use Rattle.ly_subset.specs.Automaton as scanner
use Rattle.ly_tables.specs.Ranges.{Counts, IsCutWithin, IsEmittedWithin, IsNameLong, IsShapeShort, counts_of, width_of}

-- The first two terminals are `$end` and `$undef`; there is at least one rule, and no more symbols, rules and states
-- than these counts allow; and the lengths of bodies, names of terminals and names of constructors fit in a byte.
pub record IsGrammarWithin (counts : Counts) (s : Spec) (M : parser.Lr0Automaton) : Type 0 where
  pub end : slice_get s.terminals 0 ≡ Some end
  pub undefined : slice_get s.terminals 1 ≡ Some undefined
  pub symbols : length s.terminals + length s.nonterminals + 1 ≤ counts.symbols
  pub names : All (λ t. IsNameLong (terminal_name t)) s.terminals
  pub some_rule : 2 ≤ length s.grammar.rules
  pub rule_count : length s.grammar.rules ≤ counts.rules + 1
  pub rules : (p : ℕ) → 1 ≤ p → p < length s.grammar.rules
      → (r : GrammarRule) × IsRule s.grammar p r × (length r.body ≤ 255)
  pub constructors : (p : ℕ) → IsShapeShort (shape_in s p)
  pub states : length M.states ≤ counts.states

-- The action of a scanner rule refers to what exists: a terminal other than the end, and a condition, each of which has
-- two starts.
pub record IsActionWithin (terminals starts : ℕ) (a : ScanAction) : Type 0 where
  pub emits : IsEmittedWithin terminals a.emits
  pub begin : (c : ℕ) → a.begin ≡ Some c → 2 * c < starts

-- There is at least one condition, and no more rules, conditions and states than these counts allow; actions and
-- accepted rules refer to what exists; and the lengths of trailing contexts fit in this width.
pub record IsScannerWithin (w : Width) (counts : Counts) (s : Spec) (rules : List pattern.Rule) (A : scanner.Automaton)
    : Type 0 where
  pub rule_count : length rules ≤ counts.rules
  pub actions : All (IsActionWithin (length s.terminals) A.starts) s.scanner
  pub cuts : All (λ r. IsCutWithin w r.pattern.cut) rules
  pub some_condition : 0 < A.starts
  pub conditions : A.starts ≤ 2 * counts.conditions
  pub states : length A.rules ≤ counts.states
  pub accepted : (k p : ℕ) → slice_get A.rules k ≡ Some (Some p) → p < length rules

-- The grammar and the scanner of a specification, and both automata, are within the counts of the version.
pub record FitsFile (v : Version) (s : Spec) (rules : List pattern.Rule) (A : scanner.Automaton)
    (M : parser.Lr0Automaton)
    : Type 0 where
  pub grammar : IsGrammarWithin (counts_of v) s M
  pub scanner : IsScannerWithin (width_of v) (counts_of v) s rules A
