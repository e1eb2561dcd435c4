-- The specification of a lex file and a yacc file.
use Rattle.std.specs.Prelude.{◌≡◌, ℕ, List, [], ◌∷◌, length, slice_get, Option, Some, None}
use Rattle.std.specs.List.{AllZip}
use Rattle.ly_base.specs.Shape.{Shape, nil, node, place, shape_of}
use Rattle.ly_yaccread.specs.Actions.{Making, default, pass, build}
use Rattle.ly_yaccread.specs.File.{Written}
use Rattle.ly_yaccread.specs.Rules.{Ruling}
use Rattle.ly_yaccread.specs.Words.{Word, name, literal}
use Rattle.ly_join.specs.Grammar.{Grammar, GrammarRule, Symbol, terminal, nonterminal, accept_rule, grammar_from}
use Rattle.ly_join.specs.Numbering.{nonterminals_of, start_name, terminals_of, IsNonterminal, IsToken}
use Rattle.ly_join.specs.Precedences.{given, AreGivenOnce, HasPrecedence}
use Rattle.ly_join.specs.Scanning.{Scanning, IsScanAction}
use Rattle.ly_join.specs.Terminals.{TerminalName, token, byte, IsNumbered}
use Rattle.ly_join.specs.declared.precedence.Precedence.{Precedence}
use Rattle.ly_join.specs.declared.rule.RuleNote as code
use Rattle.ly_base.specs.declared.scan_action.ScanAction.{ScanAction}

-- the precedence of a rule, and its tree
pub record Note : Type 0 where
  pub precedence : Option Precedence
  pub shape : Shape

abbrev pub note_of : code.RuleNote → Note
note_of n = record { precedence = n.precedence; shape = shape_of n.tree }

-- A specification: its grammar, the names of the terminals and nonterminals, the precedence of each terminal, the note
-- of each rule, and the action of each rule of the lex file.
pub record Spec : Type 0 where
  pub grammar : Grammar
  pub terminals : List TerminalName
  pub nonterminals : List (List ℕ)
  pub precedences : List (Option Precedence)
  pub notes : List Note
  pub scanner : List ScanAction

-- The meaning of symbol numbers: the terminals, the nonterminals, and the precedence of each terminal.
pub record SymbolTable : Type 0 where
  pub terminals : List TerminalName
  pub nonterminals : List (List ℕ)
  pub precedences : List (Option Precedence)

-- the terminal of a word in a rule
abbrev pub IsTerminal : List TerminalName → Word → ℕ → Type 0
IsTerminal terminals (name n) t = IsNumbered terminals (token n) t
IsTerminal terminals (literal b) t = IsNumbered terminals (byte b) t
IsTerminal terminals _ t = ⊥

-- the symbol of a word in a body: a terminal, or a nonterminal by its name
abbrev pub IsSymbol : SymbolTable → Word → Symbol → Type 0
IsSymbol m x (terminal t) = IsTerminal m.terminals x t
IsSymbol m (name n) (nonterminal A) = slice_get m.nonterminals A ≡ Some n
IsSymbol m _ (nonterminal A) = ⊥

-- the second, if there is one, else the first
abbrev pub later : Option ℕ → Option ℕ → Option ℕ
later first None = first
later first (Some t) = Some t

-- the number of a symbol, if it is a terminal
abbrev pub number_in : Symbol → Option ℕ
number_in (terminal t) = Some t
number_in (nonterminal A) = None

-- the last terminal of a body, if it has one
abbrev pub last_terminal : List Symbol → Option ℕ
last_terminal [] = None
last_terminal (X ∷ w) = later (number_in X) (last_terminal w)

-- the precedence of a terminal, or none
abbrev pub IsPrecedenceOf : List (Option Precedence) → Option ℕ → Option Precedence → Type 0
IsPrecedenceOf precedences None p = p ≡ None
IsPrecedenceOf precedences (Some t) p = slice_get precedences t ≡ Some p

-- the precedence of a rule: of the terminal after its `%prec`, or else of the last one of its body
abbrev pub IsRulePrecedence : SymbolTable → Option Word → List Symbol → Option Precedence → Type 0
IsRulePrecedence m (Some x) body p = (t : ℕ) × IsTerminal m.terminals x t × IsPrecedenceOf m.precedences (Some t) p
IsRulePrecedence m None body p = IsPrecedenceOf m.precedences (last_terminal body) p

-- the tree of a rule; without an action, that of its first symbol, or nothing if the body is empty
abbrev pub shape_by : Making → List Symbol → Shape
shape_by default [] = nil
shape_by default (X ∷ w) = place 1
shape_by (pass p) w = place p
shape_by (build n ps) w = node n ps

-- This rule of the file becomes this rule over numbered symbols, with this note.
pub record IsJoinedRule (m : SymbolTable) (r : Ruling) (rule : GrammarRule) (note : Note) : Type 0 where
  pub left : slice_get m.nonterminals rule.left ≡ Some r.left
  pub body : AllZip (IsSymbol m) r.body rule.body
  pub precedence : IsRulePrecedence m r.precedence rule.body note.precedence
  pub shape : note.shape ≡ shape_by r.making rule.body

-- the rules of the file become these, one by one
abbrev pub AreJoined : SymbolTable → List Ruling → List GrammarRule → List Note → Type 0
AreJoined m [] [] [] = Unit {0}
AreJoined m (r ∷ rs) (rule ∷ rules) (n ∷ notes) = IsJoinedRule m r rule n × AreJoined m rs rules notes
AreJoined m _ _ _ = ⊥

-- the meaning of symbol numbers in a specification
abbrev pub table_of : Spec → SymbolTable
table_of s = record { terminals = s.terminals; nonterminals = s.nonterminals; precedences = s.precedences }

-- the note of rule 0: the end has no precedence, and the tree is that of the start symbol
abbrev pub accept_note : Note
accept_note = record { precedence = None; shape = place 1 }

-- The specification of a lex file and a yacc file: the symbols have their numbers, no token is a left side or has two
-- precedences, the start symbol is a nonterminal, rule 0 comes first and then the rules in order, and each token that
-- an action returns is a terminal.
pub record Joined (x : Scanning) (w : Written) (s : Spec) : Type 0 where
  pub terminals : s.terminals ≡ terminals_of w
  pub nonterminals : s.nonterminals ≡ nonterminals_of w
  pub apart : (n : List ℕ) → IsToken w n → IsNonterminal w n → ⊥
  pub given_once : AreGivenOnce (given w.preamble.declarations)
  pub precedences : AllZip (HasPrecedence (given w.preamble.declarations)) s.terminals s.precedences
  pub start : List ℕ
  pub starts : start_name w.preamble.start w.rules ≡ Some start
  pub start_number : slice_get s.nonterminals s.grammar.start ≡ Some start
  pub rules : List GrammarRule
  pub notes : List Note
  pub joined : AreJoined (table_of s) w.rules rules notes
  pub grammar : s.grammar ≡ grammar_from (length s.terminals) (length s.nonterminals) s.grammar.start
      (accept_rule (length s.nonterminals) s.grammar.start ∷ rules)
  pub all_notes : s.notes ≡ accept_note ∷ notes
  pub scanner : AllZip (IsScanAction s.terminals) x.actions s.scanner
