-- Laws of tables.
use Rattle.std.specs.Prelude.{◌≡◌, ◌↔◌, ℕ, ◌<◌, ◌≤◌, List, [], ◌∷◌, ◌++◌, All, Contains, length}
use Rattle.ly_base.specs.Lexed.{Token}
use Rattle.ly_grammar.specs.Derivations.{IsTree}
use Rattle.ly_grammar.specs.Reduction.{KeepsUseful}
use Rattle.ly_join.specs.Grammar.{IsRule, GrammarRule, nonterminal}
use Rattle.ly_join.specs.Joined.{Joined, Spec}
use Rattle.ly_join.specs.Scanning.{Scanning}
use Rattle.ly_loop.specs.Endless.{IsFirstEndless}
use Rattle.ly_lr0.specs.Automaton.{Lr0Automaton, IsLr0Automaton}
use Rattle.ly_pack.specs.Machine.{Machine, IsMachine, AreEntriesWithin, entry_at, goto_at, states_of}
use Rattle.ly_pack.specs.Steady.{IsSteady, rule_at}
use Rattle.ly_pack.specs.SteadyLaws.{IsStack}
use Rattle.ly_base.specs.Trees.{Occurs, Tree}
use Rattle.ly_parse.specs.Expected.{AreExpected}
use Rattle.ly_parse.specs.Deriving.{Derives, FeedsTree, ReadsTrees, TreeFed, TreeLevel, refused, shape_of_rule}
use Rattle.ly_parse.specs.Deriving.{states_below}
use Rattle.ly_resolve.specs.Machine.{AcceptsWith, Ends, Next, Pushed, RefusesAfter}
use Rattle.ly_resolve.specs.Precedence.{judge_of}
use Rattle.ly_yaccread.specs.File.{Written}
use Rattle.ly_yaccread.specs.YaccText.{YaccText}
use Rattle.ly_emit.specs.Following.{Simulates, Mirrors}
use Rattle.ly_emit.specs.Tables.{AreShapesWithin, IsMachineOf, shape_in}

-- The reference machine does to a token what tables with defaults do: a default is a reduction that it makes too, or
-- leads to no token.
abbrev pub TablesFollow : Type 0
TablesFollow = (s : Spec) (M : Lr0Automaton) (n : Machine) → IsLr0Automaton M → KeepsUseful s.grammar M.grammar
    → IsMachineOf s M n → (stack : List Pushed) (levels : List TreeLevel) (token : Token ℕ) (behind : List (Token ℕ))
    (out : TreeFed) → token.terminal < M.grammar.terminals → Mirrors M stack levels → FeedsTree n token levels out
    → Simulates M (judge_of s) stack token behind out

-- the terminal of each token is one of the grammar's
abbrev pub AreOf : Lr0Automaton → List (Token ℕ) → Type 0
AreOf M tokens = All (λ t. t.terminal < M.grammar.terminals) tokens

-- If tables accept tokens with a derivation tree, the reference machine accepts them with the same tree.
abbrev pub AcceptedFollow : Type 0
AcceptedFollow = (s : Spec) (M : Lr0Automaton) (n : Machine) → IsLr0Automaton M → KeepsUseful s.grammar M.grammar
    → IsMachineOf s M n → (tokens : List (Token ℕ)) (end : Token ℕ) (d : Tree) → AreOf M (tokens ++ end ∷ [])
    → Derives n tokens end d → AcceptsWith M.grammar (judge_of s) (tokens ++ end ∷ []) d

-- The rules in a derivation tree have the same shapes in the tables as in the specification.
abbrev pub ShapesAreOfRules : Type 0
ShapesAreOfRules = (s : Spec) (M : Lr0Automaton) (n : Machine) → IsLr0Automaton M → KeepsUseful s.grammar M.grammar
    → IsMachineOf s M n → (d : Tree) → IsTree M.grammar (nonterminal M.grammar.start) d → (p : ℕ) → Occurs p d
    → shape_of_rule n.rules p ≡ shape_in s p

-- If tables read some tokens and reject the next, so does the reference machine, whatever follows it.
abbrev pub RefusedFollow : Type 0
RefusedFollow = (s : Spec) (M : Lr0Automaton) (n : Machine) → IsLr0Automaton M → KeepsUseful s.grammar M.grammar
    → IsMachineOf s M n → (before behind : List (Token ℕ)) (t : Token ℕ) (last : List TreeLevel)
    → AreOf M (before ++ t ∷ []) → ReadsTrees n [] before last → FeedsTree n t last refused
    → RefusesAfter M.grammar (judge_of s) (before ++ t ∷ behind) before

-- On steady tables each run of the reference machine on tokens followed by the end ends.
abbrev pub RunsEndOnSteady : Type 0
RunsEndOnSteady = (s : Spec) (M : Lr0Automaton) (n : Machine) → IsLr0Automaton M → KeepsUseful s.grammar M.grammar
    → IsMachineOf s M n → IsMachine n → IsSteady n → (tokens : List (Token ℕ)) (end : Token ℕ) → end.terminal ≡ 0
    → AreOf M (tokens ++ end ∷ []) → Ends M.grammar (judge_of s) (tokens ++ end ∷ [])

-- On steady tables whose levels mirror a stack of the reference machine, the expected terminals are those that it would
-- read next.
abbrev pub ExpectedFollow : Type 0
ExpectedFollow = (s : Spec) (M : Lr0Automaton) (n : Machine) → IsLr0Automaton M → KeepsUseful s.grammar M.grammar
    → IsMachineOf s M n → IsSteady n → (stack : List Pushed) (levels : List TreeLevel) → Mirrors M stack levels
    → IsStack n (states_below levels) → (ts : List ℕ) → AreExpected n (states_below levels) ts → (t : ℕ) → Contains ts t ↔ Next M.grammar (judge_of s) stack t

-- The trees of a yacc file's rules use places of their bodies, each at most once.
abbrev pub ShapesAreWithin : Type 0
ShapesAreWithin = (bytes : List ℕ) (x : Scanning) (w : Written) (s : Spec) → YaccText bytes w → Joined x w s
    → AreShapesWithin s

-- Two machines are the same tables of a specification: they have the same entries, defaults and gotos in each of their
-- states, and the same rule for each of the specification's.
pub record AreSameTables (s : Spec) (m n : Machine) : Type 0 where
  pub terminals : m.terminals ≡ n.terminals
  pub nonterminals : m.nonterminals ≡ n.nonterminals
  pub defaults : m.defaults ≡ n.defaults
  pub entries : (k t : ℕ) → k < states_of m → entry_at m k t ≡ entry_at n k t
  pub gotos : (k A : ℕ) → k < states_of m → A < m.nonterminals → goto_at m k A ≡ goto_at n k A
  pub rules : (p : ℕ) (r : GrammarRule) → 1 ≤ p → IsRule s.grammar p r → rule_at m p ≡ rule_at n p
  pub numbers : length m.rules ≡ length n.rules

-- The tables of a specification with default reductions are unique, whatever automata of its useful rules they come
-- from.
abbrev pub TablesAreOne : Type 0
TablesAreOne = (s : Spec) (M N : Lr0Automaton) (m n : Machine) → IsLr0Automaton M → IsLr0Automaton N
    → KeepsUseful s.grammar M.grammar → KeepsUseful s.grammar N.grammar → IsMachineOf s M m → IsMachineOf s N n
    → AreSameTables s m n

-- so all or none are steady, if the others have no entries outside of their rows and columns
abbrev pub SteadyTogether : Type 0
SteadyTogether = (s : Spec) (M N : Lr0Automaton) (m n : Machine) → IsLr0Automaton M → IsLr0Automaton N
    → KeepsUseful s.grammar M.grammar → KeepsUseful s.grammar N.grammar → IsMachineOf s M m → IsMachineOf s N n
    → AreEntriesWithin n → IsSteady m → IsSteady n

-- If a run of a specification's tables is too long, no tables of it are steady.
abbrev pub EndlessExcludesSteady : Type 0
EndlessExcludesSteady = (s : Spec) (M N : Lr0Automaton) (m n : Machine) → IsLr0Automaton M → IsLr0Automaton N
    → KeepsUseful s.grammar M.grammar → KeepsUseful s.grammar N.grammar → IsMachineOf s M m → IsMachineOf s N n
    → AreEntriesWithin n → IsSteady m → (below top token : ℕ) → IsFirstEndless n below top token → ⊥
