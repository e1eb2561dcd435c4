-- Runs of passes: reductions whose body has one symbol, and that pass its term on. They change the state on top of a
-- stack and nothing else, so that what they come to is the same on every stack with these two states on top.
use Rattle.std.specs.Prelude.{◌≡◌, ℕ, ◌<◌, All, None, Some}
use Rattle.ly_base.specs.Shape.{place}
use Rattle.ly_pack.specs.Machine.{Machine, TableAction, TableRule, action_of, goto_at, reduce, states_of}
use Rattle.ly_pack.specs.Steady.{rule_at, IsTableEdge}
use Rattle.ly_pack.specs.Values.{action_from}
use Rattle.ly_parse.specs.declared.kept.Kept.{Kept}
use Rattle.ly_parse.specs.declared.landing.Landing.{Landing}
use Rattle.ly_parse.specs.declared.origin.Numbers.{Numbers}
use Rattle.ly_parse.specs.declared.shortcut.Shortcut.{Shortcut}
use Rattle.ly_parse.specs.declared.shortcut.Situation.{Situation}
use Rattle.ly_parse.specs.declared.shortcuts.Shortcuts.{Shortcuts}

-- the rule of a left side that passes on the one symbol of its body
abbrev pub passing : ℕ → TableRule
passing left = record { left = left; body_length = 1; shape = place 1 }

-- an action that passes the term on top to a left side
abbrev pub IsPass : Machine → TableAction → ℕ → Type 0
IsPass m a left = (p : ℕ) × (a ≡ reduce p) × (rule_at m p ≡ Some (passing left))

-- Passes before the terminal t, above the state below, lead from the one state on top to another.
pub data Passes (m : Machine) (t below first : ℕ) : ℕ → Type 0 where
  here : Passes m t below first first
  further : {last next left : ℕ} → Passes m t below first last → IsPass m (action_of m last t) left
      → goto_at m below left ≡ Some next → Passes m t below first next

-- A situation that tables allow: its terminal and its states are there, and the states are an edge.
pub record IsSituation (m : Machine) (s : Situation) : Type 0 where
  pub terminal : s.terminal.0 < m.terminals
  pub below : s.below.0 < states_of m
  pub top : s.top.0 < states_of m
  pub edge : IsTableEdge m s.below.0 s.top.0

-- passes lead from the situation to the state, and this is done there
pub record ArePasses (m : Machine) (s : Situation) (state : ℕ) (action : TableAction) : Type 0 where
  pub passes : Passes m s.terminal.0 s.below.0 s.top.0 state
  pub acts : action ≡ action_of m state s.terminal.0

-- passes lead from the situation to one that has no goto
pub record LacksGoto (m : Machine) (s : Situation) : Type 0 where
  pub state : ℕ
  pub left : ℕ
  pub passes : Passes m s.terminal.0 s.below.0 s.top.0 state
  pub action : IsPass m (action_of m state s.terminal.0) left
  pub missing : goto_at m s.below.0 left ≡ None

-- the goto of a landing leads to the situation
pub record GoesTo (m : Machine) (l : Landing) (s : Situation) : Type 0 where
  pub goto : goto_at m l.below.0 l.left.0 ≡ Some s.top.0
  pub below : s.below ≡ l.below
  pub terminal : s.terminal ≡ l.terminal

-- the goto of a landing and passes behind it lead to the state, and this is done there
abbrev pub Lands : Machine → Landing → ℕ → TableAction → Type 0
Lands m l state action = (s : Situation) × GoesTo m l s × ArePasses m s state action

-- the goto of a landing is missing, or passes behind it lead to one that has none
pub data Strands (m : Machine) (l : Landing) : Type 0 where
  at_once : goto_at m l.below.0 l.left.0 ≡ None → Strands m l
  behind : (s : Situation) → GoesTo m l s → LacksGoto m s → Strands m l

-- the shortcut is one from there
abbrev pub IsFrom : {O : Type 0} → (O → ℕ → TableAction → Type 0) → O → Shortcut O → Type 0
IsFrom Leads from s = (s.from ≡ from) × Leads s.from s.state.0 (action_from s.action)

-- the situation, and the landing, of some numbers
abbrev pub situation_of : Numbers → Situation
situation_of n = record {
  below = record { 0 = n.below };
  top = record { 0 = n.above };
  terminal = record { 0 = n.terminal };
}

abbrev pub landing_of : Numbers → Landing
landing_of n = record {
  below = record { 0 = n.below };
  left = record { 0 = n.above };
  terminal = record { 0 = n.terminal };
}

-- the shortcut that stands at a place
abbrev pub shortcut_of : {O : Type 0} → (Numbers → O) → Kept → Shortcut O
shortcut_of origin_of k = record {
  from = origin_of (record { below = k.below; above = k.above; terminal = k.terminal });
  state = record { 0 = k.state };
  action = k.action;
}

-- all that is kept is right
abbrev pub AreShortcuts : {O : Type 0} → (Numbers → O) → (O → ℕ → TableAction → Type 0) → Shortcuts O → Type 0
AreShortcuts origin_of Leads kept =
    All (λ k. let s = shortcut_of origin_of k in Leads s.from s.state.0 (action_from s.action)) kept.places.items

-- and that which a parser keeps
pub record AreKept (m : Machine) (shortcuts : Shortcuts Situation) (landings : Shortcuts Landing) : Type 0 where
  pub passes : AreShortcuts situation_of (ArePasses m) shortcuts
  pub gotos : AreShortcuts landing_of (Lands m) landings
