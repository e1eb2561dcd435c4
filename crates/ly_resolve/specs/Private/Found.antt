-- What was found of the entries of an automaton so far.
use Rattle.std.specs.Prelude.{◌≡◌, ◌↔◌, ◌⊎◌, ℕ, ◌<◌, List, Bool, length, AllPairs, Contains, IsTrue}
use Rattle.ly_lr0.specs.Automaton.{Lr0Automaton, prefix_of}
use Rattle.ly_resolve.specs.Actions.{Action, Judge, IsAction, IsRaw}
use Rattle.ly_resolve.specs.Conflicts.{Conflict, IsBefore, IsCounted}
use Rattle.ly_resolve.specs.Resolved.{TerminalAction}

-- the entry of state k before terminal u comes before that of state s before terminal t
abbrev pub IsPast : ℕ → ℕ → ℕ → ℕ → Type 0
IsPast s t k u = (k < s) ⊎ ((k ≡ s) × (u < t))

-- a conflict of an entry that is past
pub record IsToldOf (M : Lr0Automaton) (judge : Judge) (s t : ℕ) (c : Conflict) : Type 0 where
  pub state : ℕ
  pub within : state < length M.states
  pub prefix : c.prefix ≡ prefix_of M state
  pub past : IsPast s t state c.terminal
  pub counted : IsCounted M.grammar judge c.prefix c.terminal c.kind c.rule
  pub choice : IsAction M.grammar judge c.prefix c.terminal c.choice

-- no two actions are asked for at entries that are past
abbrev pub AreSingle : Lr0Automaton → ℕ → ℕ → Type 0
AreSingle M s t = (k u : ℕ) (a b : Action) → k < length M.states → IsPast s t k u → IsRaw M.grammar (prefix_of M k) u a
    → IsRaw M.grammar (prefix_of M k) u b → a ≡ b

-- The conflicts of the entries that are past, and whether none of these asks for two actions.
pub record AreTold (M : Lr0Automaton) (judge : Judge) (s t : ℕ) (cs : List Conflict) (single : Bool) : Type 0 where
  pub are : (c : Conflict) → Contains cs c ↔ IsToldOf M judge s t c
  pub ordered : AllPairs IsBefore cs
  pub free : IsTrue single ↔ AreSingle M s t

-- The entries of a state before the first terminals.
pub record AreEntries (M : Lr0Automaton) (judge : Judge) (s t : ℕ) (row : List TerminalAction) : Type 0 where
  pub ordered : AllPairs (λ x y. x.terminal < y.terminal) row
  pub are : (x : TerminalAction) → Contains row x
      ↔ ((x.terminal < t) × IsAction M.grammar judge (prefix_of M s) x.terminal x.action)
  pub whole : (u : ℕ) (a : Action) → u < t → IsRaw M.grammar (prefix_of M s) u a
      → (b : Action) × IsAction M.grammar judge (prefix_of M s) u b
