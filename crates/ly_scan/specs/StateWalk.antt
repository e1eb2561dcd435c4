-- Walks over numbered states.
use Rattle.std.specs.Prelude.{◌≡◌, ◌++◌, ℕ, List, [], ◌∷◌, Bool, true, false, Option, Some, None, option_and_then, refl}
use Rattle.std.proofs.Common.{◌∙◌, ap}
use Rattle.ly_scan.specs.Walk.{Walk}

-- States: the start of a condition, at the start of a line or not; the target of a byte from a state; and the rule of a
-- state, if it has one.
pub record States : Type 0 where
  pub start : ℕ → Bool → Option ℕ
  pub next : ℕ → ℕ → Option ℕ
  pub rule : ℕ → Option ℕ

-- each condition has the same start at the start of a line and elsewhere
abbrev pub MindsNoLine : States → Type 0
MindsNoLine S = (condition : ℕ) → S.start condition true ≡ S.start condition false

-- the state after a string; none means that the walk has ended
abbrev pub state_after : States → Option ℕ → List ℕ → Option ℕ
state_after S s [] = s
state_after S s (b ∷ text) = state_after S (option_and_then (λ state. S.next state b) s) text

-- the result of a walk in a state; without a state it has ended
abbrev pub says : States → Option ℕ → Option (Option ℕ)
says S None = None
says S (Some s) = Some (S.rule s)

-- the results of the walk for the bytes that follow a state
abbrev pub ahead_of : States → Option ℕ → Walk
ahead_of S s text = says S (state_after S s text)

-- the walk from the start of a condition
abbrev pub state_walk : States → ℕ → Bool → Walk
state_walk S condition line text = ahead_of S (S.start condition line) text

state_after-append : (S : States) (s : Option ℕ) (t u : List ℕ)
    → state_after S s (t ++ u) ≡ state_after S (state_after S s t) u
state_after-append S s [] u = refl
state_after-append S s (b ∷ t) u = state_after-append S (option_and_then (λ state. S.next state b) s) t u

state_after-none : (S : States) (u : List ℕ) → state_after S None u ≡ None
state_after-none S [] = refl
state_after-none S (b ∷ u) = state_after-none S u

none_from_said : (S : States) (s : Option ℕ) → says S s ≡ None → s ≡ None
none_from_said S None e = refl
none_from_said S (Some s) e = cc

-- a walk that has ended stays ended
pub ahead_of-ended : (S : States) (s : Option ℕ) (t u : List ℕ) → ahead_of S s t ≡ None
    → ahead_of S s (t ++ u) ≡ None
ahead_of-ended S s t u h
    = ap (says S) (state_after-append S s t u
    ∙ ap (λ o. state_after S o u) (none_from_said S (state_after S s t) h) ∙ state_after-none S u)
