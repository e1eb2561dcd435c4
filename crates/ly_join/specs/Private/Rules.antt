-- What is known while precedences, rules and actions are joined.
use Rattle.std.specs.Prelude.{◌≡◌, ◌<◌, ◌≤◌, ◌⊎◌, ℕ, List, ◌∷◌, map, length, Option, Some, None, Contains, slice_get}
use Rattle.std.specs.Prelude.{slice_index_or}
use Rattle.std.specs.List.{flat_map}
use Rattle.ly_yaccread.specs.Rules.{Ruling}
use Rattle.ly_yaccread.specs.Words.{Word, name, literal}
use Rattle.ly_join.specs.Grammar.{GrammarRule, Symbol, terminal, nonterminal}
use Rattle.ly_join.specs.Joined.{accept_note, AreJoined, Note, SymbolTable}
use Rattle.ly_join.specs.Numbering.{rule_literals}
use Rattle.ly_join.specs.Precedences.{AreGivenOnce, HasPrecedence, IsGivenTwice}
use Rattle.ly_join.specs.Scanning.{Acting, Returning, returns}
use Rattle.ly_join.specs.Terminals.{TerminalName, byte, terminal_from, token}
use Rattle.ly_join.specs.declared.fault.JoinFault.{JoinFault}
use Rattle.ly_join.specs.declared.fault.JoinFault.TheVariants.{UndefinedSymbol, TokenOnLeft, PrecedenceTwice}
use Rattle.ly_join.specs.declared.fault.JoinFault.TheVariants.{ReturnUndeclared, PrecUnknown, OutOfMemory}
use Rattle.ly_join.specs.declared.precedence.Precedence.{Precedence}
use Rattle.ly_join.specs.declared.rule.LeftSide.{LeftSide}
use Rattle.ly_join.specs.declared.rule.SymbolTable as code

-- the members of the second list are in the first
abbrev pub HasAll : {X : Type 0} → List X → List X → Type 0
HasAll {X} all xs = (x : X) → Contains xs x → Contains all x

-- The terminals have the precedences that were given so far, none of them twice.
pub record AreGiven (all : List (TerminalName × Precedence)) (terminals : List TerminalName)
    (precedences : List (Option Precedence)) : Type 0 where
  pub long : length precedences ≡ length terminals
  pub each : (t : ℕ) (x : TerminalName) → slice_get terminals t ≡ Some x
      → HasPrecedence all x (slice_index_or precedences t None)
  pub once : AreGivenOnce all

-- a terminal is given a precedence twice, or memory is refused
abbrev pub IsGivingFault : List (TerminalName × Precedence) → JoinFault → Type 0
IsGivingFault all (PrecedenceTwice t) = IsGivenTwice all (terminal_from t)
IsGivingFault all OutOfMemory = Unit {0}
IsGivingFault all _ = ⊥

-- what the code's table says
abbrev pub table_from : code.SymbolTable → SymbolTable
table_from t = record {
  terminals = t.terminals;
  nonterminals = t.nonterminals;
  precedences = t.precedences.items;
}

-- a word of a body that is a literal has a number
abbrev pub HasLiteral : List TerminalName → Word → Type 0
HasLiteral terminals (literal b) = Contains terminals (byte b)
HasLiteral terminals _ = Unit {0}

-- The left side and the literals of rules have numbers, and every terminal has its precedence or none.
pub record AreCovered (m : SymbolTable) (rules : List Ruling) : Type 0 where
  pub long : length m.precedences ≡ length m.terminals
  pub left : HasAll m.nonterminals (map (λ r. r.left) rules)
  pub literals : HasAll m.terminals (flat_map rule_literals rules)

-- a symbol has a number below this, if it is a terminal
abbrev pub IsBelow : ℕ → Symbol → Type 0
IsBelow n (terminal t) = t < n
IsBelow n (nonterminal A) = Unit {0}

-- A name of a body is neither a token nor a nonterminal, or memory is refused; and so on for a left side that is a
-- token, and a `%prec` whose symbol is none.
abbrev pub IsUndefinedIn : SymbolTable → List Word → JoinFault → Type 0
IsUndefinedIn m body (UndefinedSymbol n) = Contains body (name n.items) × (Contains m.terminals (token n.items) → ⊥)
    × (Contains m.nonterminals n.items → ⊥)
IsUndefinedIn m body OutOfMemory = Unit {0}
IsUndefinedIn m body _ = ⊥

abbrev pub IsTokenOnLeft : SymbolTable → List ℕ → JoinFault → Type 0
IsTokenOnLeft m left (TokenOnLeft n) = (n.items ≡ left) × Contains m.terminals (token n.items)
IsTokenOnLeft m left OutOfMemory = Unit {0}
IsTokenOnLeft m left _ = ⊥

abbrev pub IsUnknownPrecIn : SymbolTable → Option Word → JoinFault → Type 0
IsUnknownPrecIn m x (PrecUnknown n) = (x ≡ Some (name n.items)) × (Contains m.terminals (token n.items) → ⊥)
IsUnknownPrecIn m x OutOfMemory = Unit {0}
IsUnknownPrecIn m x _ = ⊥

-- a left side has its number, and is no token
abbrev pub IsLeftSide : SymbolTable → LeftSide → Type 0
IsLeftSide m side = (slice_get m.nonterminals side.number.0 ≡ Some side.name.now)
    × (Contains m.terminals (token side.name.now) → ⊥)

-- what a fault says of a rule; want of memory says nothing
abbrev pub IsRuleFault : SymbolTable → Ruling → JoinFault → Type 0
IsRuleFault m r f = IsTokenOnLeft m r.left f ⊎ (IsUndefinedIn m r.body f ⊎ IsUnknownPrecIn m r.precedence f)

-- a fault of one of some rules, or want of memory
abbrev pub IsFaultOfRules : SymbolTable → List Ruling → JoinFault → Type 0
IsFaultOfRules m rules f = (f ≡ OutOfMemory) ⊎ ((r : Ruling) × Contains rules r × IsRuleFault m r f)

-- no left side of the rules is a token
abbrev pub HaveNoTokenLeft : SymbolTable → List Ruling → Type 0
HaveNoTokenLeft m rules = (n : List ℕ) → Contains (map (λ r. r.left) rules) n → Contains m.terminals (token n) → ⊥

-- The rules are joined, and with them the note of rule 0.
pub record RulesJoined (m : SymbolTable) (rulings : List Ruling) (rules : List GrammarRule) (notes : List Note) : Type
    0 where
  pub rest : List Note
  pub all_notes : notes ≡ accept_note ∷ rest
  pub joined : AreJoined m rulings rules rest
  pub apart : HaveNoTokenLeft m rulings

-- The rules are joined, where there are no more than this. What is kept of more is not said.
abbrev pub AreJoinedWithin : ℕ → SymbolTable → List Ruling → List GrammarRule → List Note → Type 0
AreJoinedWithin most m rulings rules notes = length rulings ≤ most → RulesJoined m rulings rules notes

-- what a fault says of what is returned; want of memory says nothing
abbrev pub IsUndeclaredIn : List TerminalName → Returning → JoinFault → Type 0
IsUndeclaredIn terminals x (ReturnUndeclared n) = (x ≡ returns (token n.items))
    × (Contains terminals (token n.items) → ⊥)
IsUndeclaredIn terminals x OutOfMemory = Unit {0}
IsUndeclaredIn terminals x _ = ⊥

-- a fault of one of some actions, or want of memory
abbrev pub IsFaultOfActions : List TerminalName → List Acting → JoinFault → Type 0
IsFaultOfActions terminals actions f
    = (f ≡ OutOfMemory) ⊎ ((a : Acting) × Contains actions a × IsUndeclaredIn terminals a.returning f)
