-- Parsers as tables (Knuth 1965; Aho, Sethi and Ullman 1986, 4.7).
use Rattle.std.specs.Prelude.{◌≡◌, ℕ, suc, ◌<◌, ◌≤◌, List, length, All, AllPairs, Option, Some, None, slice_get}
use Rattle.ly_base.specs.Shape.{Shape, nil, place, node}
use Rattle.ly_pack.specs.Rows.{Grid, cell}

-- An entry of a parser's tables: its action before a terminal. It shifts the terminal and goes to a state, reduces by a
-- rule, accepts, or rejects the terminal.
pub data TableAction : Type 0 where
  shift : ℕ → TableAction
  reduce : ℕ → TableAction
  accept : TableAction
  error : TableAction

-- A rule: its left side, the number of symbols of its body, and the tree that it builds from theirs.
pub record TableRule : Type 0 where
  pub left : ℕ
  pub body_length : ℕ
  pub shape : Shape

-- A parser's tables: the entries of states and terminals, the default reduction of each state, the entries of states
-- and nonterminals, and the rules but rule 0.
pub record Machine : Type 0 where
  pub terminals : ℕ
  pub nonterminals : ℕ
  pub actions : Grid TableAction
  pub defaults : List (Option ℕ)
  pub gotos : Grid ℕ
  pub rules : List TableRule

-- the same tables with other rules
abbrev pub with_rules : Machine → List TableRule → Machine
with_rules m rules = record m { rules = rules }

-- the number of states
abbrev pub states_of : Machine → ℕ
states_of m = length m.defaults

-- the entry of a state before a terminal, if there is one
abbrev pub entry_at : Machine → ℕ → ℕ → Option TableAction
entry_at m state t = cell m.actions state t

-- the goto of a state by a nonterminal, if it has one
abbrev pub goto_at : Machine → ℕ → ℕ → Option ℕ
goto_at m state left = cell m.gotos state left

-- the entry, or else the reduction by the default rule, or else an error
abbrev pub or_default : Option TableAction → Option (Option ℕ) → TableAction
or_default (Some a) d = a
or_default None (Some (Some p)) = reduce p
or_default None _ = error

-- the action of a state before a terminal
abbrev pub action_of : Machine → ℕ → ℕ → TableAction
action_of m state t = or_default (entry_at m state t) (slice_get m.defaults state)

-- rule p of the tables is r; rule 0 isn't among them
abbrev pub IsTableRule : Machine → ℕ → TableRule → Type 0
IsTableRule m p r = (q : ℕ) × (p ≡ suc q) × (slice_get m.rules q ≡ Some r)

-- the number is that of a rule
abbrev pub IsRuleNumber : Machine → ℕ → Type 0
IsRuleNumber m p = (1 ≤ p) × (p ≤ length m.rules)

-- The end is accepted and never shifted, and the states and rules of entries exist.
abbrev pub IsLegal : Machine → ℕ → TableAction → Type 0
IsLegal m t (shift state) = (state < states_of m) × (1 ≤ t)
IsLegal m t (reduce p) = IsRuleNumber m p
IsLegal m t accept = t ≡ 0
IsLegal m t error = Unit {0}

-- the shape uses places of a body of this length, each at most once, and a constructor has a name
abbrev pub IsShapeFor : ℕ → Shape → Type 0
IsShapeFor n nil = n ≡ 0
IsShapeFor n (place i) = (1 ≤ i) × (i ≤ n)
IsShapeFor n (node name is) = (1 ≤ length name) × All (λ i. (1 ≤ i) × (i ≤ n)) is × AllPairs (λ i j. i ≡ j → ⊥) is

-- a rule's left side and the places of its shape exist
pub record IsRuleWithin (nonterminals : ℕ) (r : TableRule) : Type 0 where
  pub left : r.left < nonterminals
  pub shape : IsShapeFor r.body_length r.shape

-- All states, rules, symbols and places in the tables exist. State 0 is the bottom of the stack.
pub record IsMachine (m : Machine) : Type 0 where
  pub bottom : 0 < states_of m
  pub actions : (state t : ℕ) (a : TableAction) → entry_at m state t ≡ Some a → IsLegal m t a
  pub defaults : (state p : ℕ) → slice_get m.defaults state ≡ Some (Some p) → IsRuleNumber m p
  pub gotos : (state left next : ℕ) → goto_at m state left ≡ Some next → next < states_of m
  pub rules : All (IsRuleWithin m.nonterminals) m.rules

-- There are as many rows of actions and of gotos as states, and as many columns as terminals and as nonterminals.
pub record HaveSizes (states terminals nonterminals action_rows action_width goto_rows goto_width : ℕ) : Type 0 where
  pub actions : action_rows ≡ states
  pub actions_wide : action_width ≡ terminals
  pub gotos : goto_rows ≡ states
  pub gotos_wide : goto_width ≡ nonterminals

-- Entries and gotos are within the rows and columns.
pub record AreEntriesWithin (m : Machine) : Type 0 where
  pub actions : (state t : ℕ) (a : TableAction) → entry_at m state t ≡ Some a
      → (state < states_of m) × (t < m.terminals)
  pub gotos : (state left next : ℕ) → goto_at m state left ≡ Some next
      → (state < states_of m) × (left < m.nonterminals)
