-- The actions of a parser in each state of an automaton, as tables.
use Rattle.std.specs.Prelude.{◌≡◌, ◌≢◌, ℕ, ◌+◌, ◌<◌, ◌≤◌, Option, Some, None, length, slice_get}
use Rattle.ly_base.specs.Shape.{Shape, nil}
use Rattle.ly_join.specs.Grammar.{IsRule, GrammarRule, nonterminal, terminal}
use Rattle.ly_join.specs.Joined.{Note, Spec}
use Rattle.ly_lr0.specs.Automaton.{Lr0Automaton, goto_of, prefix_of}
use Rattle.ly_pack.specs.Defaults.{HasDefaultsOf}
use Rattle.ly_pack.specs.Machine.{Machine, TableAction, IsShapeFor, accept, entry_at, goto_at}
use Rattle.ly_pack.specs.Machine.{states_of}
use Rattle.ly_pack.specs.Machine as table
use Rattle.ly_pack.specs.Steady.{rule_at}
use Rattle.ly_resolve.specs.Actions.{Action, IsAction, IsTerminalRefused, error, reduce, shift}
use Rattle.ly_resolve.specs.Precedence.{judge_of}

-- The entry of a state before a terminal is that of this action: a shift goes to the target of the state's transition,
-- and for the end it accepts.
abbrev pub IsEntryFor : Lr0Automaton → ℕ → ℕ → Action → TableAction → Type 0
IsEntryFor M k t shift (table.shift s) = (1 ≤ t) × (goto_of M k (terminal t) ≡ Some s)
IsEntryFor M k t shift table.accept = t ≡ 0
IsEntryFor M k t shift (table.reduce q) = ⊥
IsEntryFor M k t shift table.error = ⊥
IsEntryFor M k t (reduce p) (table.shift s) = ⊥
IsEntryFor M k t (reduce p) table.accept = ⊥
IsEntryFor M k t (reduce p) (table.reduce q) = p ≡ q
IsEntryFor M k t (reduce p) table.error = ⊥
IsEntryFor M k t error (table.shift s) = ⊥
IsEntryFor M k t error table.accept = ⊥
IsEntryFor M k t error (table.reduce q) = ⊥
IsEntryFor M k t error table.error = Unit {0}

-- the tree of the rule of a note; nothing if there is no such rule
abbrev pub shape_from : Option Note → Shape
shape_from None = nil
shape_from (Some n) = n.shape

-- the tree of a specification's rule
abbrev pub shape_in : Spec → ℕ → Shape
shape_in s p = shape_from (slice_get s.notes p)

-- The tables have the actions of each state of the automaton before each terminal, without defaults, the gotos of
-- states by nonterminals, and the specification's rules, including removed ones.
pub record AreTables (s : Spec) (M : Lr0Automaton) (m : Machine) : Type 0 where
  pub terminals : m.terminals ≡ M.grammar.terminals
  pub nonterminals : m.nonterminals ≡ M.grammar.accept
  pub states : states_of m ≡ length M.states
  pub some : (k t : ℕ) (a : TableAction) → k < length M.states → entry_at m k t ≡ Some a
      → (b : Action) × IsAction M.grammar (judge_of s) (prefix_of M k) t b × IsEntryFor M k t b a
  pub none : (k t : ℕ) → k < length M.states → t < M.grammar.terminals → entry_at m k t ≡ None
      → IsTerminalRefused M.grammar (prefix_of M k) t
  pub gotos : (k A : ℕ) → k < length M.states → A < M.grammar.accept
      → goto_at m k A ≡ goto_of M k (nonterminal A)
  pub rules : (p : ℕ) (r : GrammarRule) → 1 ≤ p → IsRule s.grammar p r
      → rule_at m p ≡ Some (record { left = r.left; body_length = length r.body; shape = shape_in s p })
  pub numbers : length m.rules + 1 ≡ length s.grammar.rules
  pub no_default : (k p : ℕ) → slice_get m.defaults k ≢ Some (Some p)

-- The tree of each rule but rule 0 uses only places of its body, each at most once.
abbrev pub AreShapesWithin : Spec → Type 0
AreShapesWithin s = (p : ℕ) (r : GrammarRule) → 1 ≤ p → IsRule s.grammar p r → IsShapeFor (length r.body) (shape_in s p)

-- The machine is that of the specification: its tables, with default reductions.
abbrev pub IsMachineOf : Spec → Lr0Automaton → Machine → Type 0
IsMachineOf s M n = (m : Machine) × AreTables s M m × HasDefaultsOf m n
