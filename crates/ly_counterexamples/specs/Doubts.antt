-- What is of no use in two accepted files.
use Rattle.std.specs.Prelude.{◌≡◌, ◌↔◌, ◌<◌, ◌≤◌, ℕ, List, ◌∷◌, Bool, Some, slice_get, AllPairs, Contains}
use Rattle.ly_base.specs.declared.scan_action.Emitted.{Emitted}
use Rattle.ly_base.specs.declared.scan_action.Emitted.TheVariants.{FirstByte, Nothing, Terminal as Own}
use Rattle.ly_base.specs.declared.scan_action.ScanAction.{ScanAction}
use Rattle.ly_ere.specs.Names.{defined}
use Rattle.ly_ere.specs.Winner.{Winner}
use Rattle.ly_lexread.specs.declared.file.LexFile.{LexFile}
use Rattle.ly_subset.specs.Automaton.{Automaton, rule_after, start_of}
use Rattle.ly_join.specs.Grammar.{IsRule, GrammarRule, Symbol, terminal}
use Rattle.ly_join.specs.Joined.{Spec}
use Rattle.ly_join.specs.Terminals.{TerminalName, byte, token, IsNumbered}
use Rattle.ly_grammar.specs.Derivations.{IsUseful}
use Rattle.ly_resolve.specs.Actions.{IsAction, reduce}
use Rattle.ly_resolve.specs.Precedence.{judge_of}
use Rattle.ly_resolve.specs.Resolved.{Resolved}

-- The numbers with a property, in ascending order.
pub record AreRising (P : ℕ → Type 0) (numbers : List ℕ) : Type 0 where
  pub are : (n : ℕ) → Contains numbers n ↔ P n
  pub rising : AllPairs (λ m n. m < n) numbers

-- some string of at least one byte leads from a start to a state with the rule
abbrev pub IsMatched : Automaton → ℕ → Type 0
IsMatched A i = (c : ℕ) × (line : Bool) × (b : ℕ) × (w : List ℕ)
    × (rule_after A (start_of A c line) (b ∷ w) ≡ Some i)

-- a rule, with a number below this count, never matches
abbrev pub NeverMatches : Automaton → ℕ → ℕ → Type 0
NeverMatches A rules i = (i < rules) × (IsMatched A i → ⊥)

-- the rule wins somewhere in some text
abbrev pub Wins : LexFile → ℕ → Type 0
Wins file i = (c : ℕ) × (line : Bool)
    × ((rest : List ℕ) × (n : ℕ) × (m : ℕ) × Winner (defined file.names) file.rules.items c line rest i n m)

-- at some string of symbols, before some terminal, the action is to reduce by the rule
abbrev pub IsReducedBy : Resolved → ℕ → Type 0
IsReducedBy r p = (g : List Symbol) × (t : ℕ) × IsAction r.automaton.grammar (judge_of r.spec) g t (reduce p)

-- a useful rule, and not rule 0, that is never reduced
abbrev pub NeverReduces : Resolved → ℕ → Type 0
NeverReduces r p = (1 ≤ p) × (q : GrammarRule) × IsRule r.spec.grammar p q × IsUseful r.spec.grammar p
    × (IsReducedBy r p → ⊥)

-- the terminal is a token or a literal: neither the end nor the terminal for bytes without a literal
abbrev pub IsNamed : TerminalName → Type 0
IsNamed (token name) = Unit {0}
IsNamed (byte b) = Unit {0}
IsNamed _ = ⊥

-- the number is that of a token or a literal
abbrev pub IsTokenOrLiteral : Spec → ℕ → Type 0
IsTokenOrLiteral s t = (x : TerminalName) × IsNumbered s.terminals x t × IsNamed x

-- the terminal is in the body of a rule
abbrev pub IsUsed : Spec → ℕ → Type 0
IsUsed s t = (p : ℕ) × (r : GrammarRule) × IsRule s.grammar p r × Contains r.body (terminal t)

-- a token or a literal is in no body of a rule
abbrev pub IsUnused : Spec → ℕ → Type 0
IsUnused s t = IsTokenOrLiteral s t × (IsUsed s t → ⊥)

-- a match that begins with the byte returns the terminal
abbrev pub Emits : Spec → Emitted → ℕ → ℕ → Type 0
Emits s Nothing b t = ⊥
Emits s (Own own) b t = own.0 ≡ t
Emits s FirstByte b t = IsNumbered s.terminals (byte b) t

-- A match of a rule that returns the terminal: a string of at least one byte that leads from a start to a state with
-- the rule.
pub record Returns (s : Spec) (A : Automaton) (t : ℕ) : Type 0 where
  pub condition : ℕ
  pub line : Bool
  pub first : ℕ
  pub rest : List ℕ
  pub rule : ℕ
  pub matches : rule_after A (start_of A condition line) (first ∷ rest) ≡ Some rule
  pub action : ScanAction
  pub is_action : slice_get s.scanner rule ≡ Some action
  pub emits : Emits s action.emits first t

-- no match returns this token or literal
abbrev pub IsUnreturned : Spec → Automaton → ℕ → Type 0
IsUnreturned s A t = IsTokenOrLiteral s t × (Returns s A t → ⊥)
