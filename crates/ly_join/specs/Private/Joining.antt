-- What is known while two files are joined.
use Rattle.std.specs.Prelude.{◌≡◌, ◌<◌, ℕ, List, ◌∷◌, length, Contains, Some, slice_get}
use Rattle.std.specs.List.{AllZip}
use Rattle.ly_yaccread.specs.File.{Written}
use Rattle.ly_yaccread.specs.Rules.{Ruling}
use Rattle.ly_join.specs.Grammar.{GrammarRule, accept_rule, grammar_from}
use Rattle.ly_join.specs.Joined.{Note, Spec, SymbolTable}
use Rattle.ly_join.specs.Numbering.{nonterminals_of, start_name, terminals_of}
use Rattle.ly_join.specs.Precedences.{given, AreGivenOnce, HasPrecedence}
use Rattle.ly_join.specs.Terminals.{end}
use Rattle.ly_join.specs.Private.Rules.{RulesJoined}
use Rattle.ly_base.specs.declared.scan_action.ScanAction.{ScanAction}
use Rattle.ly_join.specs.declared.fault.JoinFault.{JoinFault}
use Rattle.ly_join.specs.declared.fault.JoinFault.TheVariants.{UnknownStart, OutOfMemory}

-- The symbols of a yacc file have their numbers, and the terminals their precedences.
pub record AreNumbered (w : Written) (m : SymbolTable) : Type 0 where
  pub terminals : m.terminals ≡ terminals_of w
  pub nonterminals : m.nonterminals ≡ nonterminals_of w
  pub precedences : AllZip (HasPrecedence (given w.preamble.declarations)) m.terminals m.precedences
  pub once : AreGivenOnce (given w.preamble.declarations)

-- the number is that of the start symbol
abbrev pub IsStart : Written → SymbolTable → ℕ → Type 0
IsStart w m start = (n : List ℕ) × (start_name w.preamble.start w.rules ≡ Some n)
    × (slice_get m.nonterminals start ≡ Some n)

-- what a fault says of the start symbol; want of memory says nothing
abbrev pub IsStartFault : Written → SymbolTable → JoinFault → Type 0
IsStartFault w m (UnknownStart n) = (w.preamble.start ≡ Some n.items)
    × (Contains m.nonterminals n.items → ⊥)
IsStartFault w m OutOfMemory = Unit {0}
IsStartFault w m _ = ⊥

-- All that a specification is made of is there: the end is terminal 0, every terminal has its precedence or none, the
-- start symbol is a nonterminal, and the rules are those of a file.
pub record IsReady (m : SymbolTable) (start : ℕ) (rules : List GrammarRule) (notes : List Note) : Type 0 where
  pub first : slice_get m.terminals 0 ≡ Some end
  pub long : length m.precedences ≡ length m.terminals
  pub start_within : start < length m.nonterminals
  pub rulings : List Ruling
  pub joined : RulesJoined m rulings rules notes

-- the specification that is made of these
abbrev pub spec_from : SymbolTable → ℕ → List GrammarRule → List Note → List ScanAction → Spec
spec_from m start rules notes scanner = record {
  grammar = grammar_from (length m.terminals) (length m.nonterminals) start
      (accept_rule (length m.nonterminals) start ∷ rules);
  terminals = m.terminals;
  nonterminals = m.nonterminals;
  precedences = m.precedences;
  notes = notes;
  scanner = scanner;
}
