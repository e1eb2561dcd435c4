-- What a program reaches by forks alone.
use Rattle.std.specs.Prelude.{◌≡◌, ℕ, ◌<◌, ◌≤◌, List, length, slice_get, Contains, Some}
use Rattle.ly_position.specs.Private.Program.{ProgramStep, reads, fork, ends}

-- a step leads to steps below n only
abbrev pub LeadsBelow : ℕ → ProgramStep → Type 0
LeadsBelow n (reads bytes q) = q < n
LeadsBelow n (fork a b) = (a < n) × (b < n)
LeadsBelow n (ends i) = Unit {0}

-- and to none before lo
abbrev pub LeadsFrom : ℕ → ProgramStep → Type 0
LeadsFrom lo (reads bytes q) = lo ≤ q
LeadsFrom lo (fork a b) = (lo ≤ a) × (lo ≤ b)
LeadsFrom lo (ends i) = Unit {0}

-- each step leads to steps of the program
abbrev pub StaysInside : List ProgramStep → Type 0
StaysInside program = (p : ℕ) (s : ProgramStep) → slice_get program p ≡ Some s → LeadsBelow (length program) s

-- step p is reached from the roots by forks alone
pub data Reached (program : List ProgramStep) (roots : List ℕ) : ℕ → Type 0 where
  at_root : {p : ℕ} → Contains roots p → Reached program roots p
  to_first : {p a b : ℕ} → Reached program roots p → slice_get program p ≡ Some (fork a b) → Reached program roots a
  to_second : {p a b : ℕ} → Reached program roots p → slice_get program p ≡ Some (fork a b) → Reached program roots b
