-- A run on a terminal, and the terminals that share it.
use Rattle.std.specs.Prelude.{◌≡◌, ℕ, ◌<◌, Bool, List, Contains, IfSome, MatchBool, Some}
use Rattle.ly_base.specs.declared.numbers.Sym.{Sym}
use Rattle.ly_pack.specs.Machine.{Machine, TableAction, accept, action_of, error, reduce, shift, states_of}
use Rattle.ly_parse.specs.Expected.{IsExpected}
use Rattle.ly_parse.specs.declared.last_run.LastRun.{LastRun}

-- runs go on, or end, alike by two actions, wherever a shift goes to
abbrev pub IsAlike : TableAction → TableAction → Type 0
IsAlike (shift s) (shift t) = Unit {0}
IsAlike (reduce p) (reduce q) = p ≡ q
IsAlike accept accept = Unit {0}
IsAlike error error = Unit {0}
IsAlike _ _ = ⊥

-- so they do in each of these states on two terminals
abbrev pub AreAlike : Machine → ℕ → ℕ → List ℕ → Type 0
AreAlike m t u states = (s : ℕ) → Contains states s → IsAlike (action_of m s t) (action_of m s u)

-- whether a terminal is expected
abbrev pub IsTold : Machine → ℕ → List ℕ → Bool → Type 0
IsTold m t stack is = MatchBool is (IsExpected m t stack) (IsExpected m t stack → ⊥)

-- so is each terminal on which these states do the same
abbrev pub IsShared : Machine → ℕ → List ℕ → List ℕ → Bool → Type 0
IsShared m t stack met is = (u : ℕ) → AreAlike m t u met → IsTold m u stack is

-- what is kept of the last run from a stack
pub record IsLast (m : Machine) (stack : List ℕ) (last : LastRun) : Type 0 where
  pub room : last.met.below ≡ states_of m
  pub terminal : IfSome last.terminal (λ t. t.0 < m.terminals)
  pub shared : IfSome last.terminal (λ t. IsShared m t.0 stack last.met.members last.is_expected)

-- the terminal shares the last run
pub record IsKnown (m : Machine) (last : LastRun) (u : ℕ) (is : Bool) : Type 0 where
  pub terminal : Sym
  pub some : last.terminal ≡ Some terminal
  pub alike : AreAlike m terminal.0 u last.met.members
  pub same : is ≡ last.is_expected
