-- Places among transitions in the order of their symbols.
use Rattle.std.specs.Prelude.{ℕ, ◌<◌, ◌≤◌, List, length, slice_index_or}
use Rattle.ly_join.specs.Grammar.{Symbol, symbol_of}
use Rattle.ly_lr0.specs.Automaton.{IsLess}
use Rattle.ly_lr0.specs.declared.transition.Transition.{Transition}

-- the symbol of the transition at a place
abbrev pub symbol_at : List Transition → ℕ → Transition → Symbol
symbol_at ts k d = symbol_of (slice_index_or ts k d).symbol

-- The transitions before the place come before the symbol, and those from it on don't.
pub record IsPlace (ts : List Transition) (X : Symbol) (place : ℕ) : Type 0 where
  pub within : place ≤ length ts
  pub before : (k : ℕ) (d : Transition) → k < place → IsLess (symbol_at ts k d) X
  pub behind : (k : ℕ) (d : Transition) → place ≤ k → k < length ts → IsLess (symbol_at ts k d) X → ⊥
