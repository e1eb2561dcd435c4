-- Conflicts, of which runs are kept.
use Rattle.std.specs.Prelude.{◌≡◌, ◌+◌, ◌-◌, ◌<◌, ◌≤◌, ℕ, zero, suc, List, [], ◌∷◌, ◌++◌, Some}
use Rattle.std.specs.Prelude.{length, slice_get}
use Rattle.ly_resolve.specs.declared.conflict.Conflict.{Conflict}
use Rattle.ly_resolve.specs.declared.conflicts.Run.{Run}

-- the conflict n terminals before
abbrev pub before : ℕ → Conflict → Conflict
before n c = record {
  state = c.state;
  terminal = record { 0 = c.terminal.0 - n };
  kind = c.kind;
  rule = c.rule;
  choice = c.choice;
}

-- so many conflicts in a row, of which this is the last
abbrev pub row_to : Conflict → ℕ → List Conflict
row_to c zero = []
row_to c (suc n) = row_to (before 1 c) n ++ c ∷ []

-- the conflicts of runs, behind so many others
abbrev pub items_from : ℕ → List Run → List Conflict
items_from start [] = []
items_from start (r ∷ rs) = row_to r.last (r.end - start) ++ items_from r.end rs

-- how many conflicts there are up to the end of the runs, behind so many others
abbrev pub end_from : ℕ → List Run → ℕ
end_from start [] = start
end_from start (r ∷ rs) = end_from r.end rs

-- how many there are up to run k
abbrev pub start_from : ℕ → List Run → ℕ → ℕ
start_from start [] k = start
start_from start (r ∷ rs) zero = start
start_from start (r ∷ rs) (suc k) = start_from r.end rs k

-- ends rise, and a run has no more conflicts than there are terminals up to its last
abbrev pub AreRuns : ℕ → List Run → Type 0
AreRuns start [] = Unit {0}
AreRuns start (r ∷ rs) = (start < r.end) × (r.end ≤ start + r.last.terminal.0 + 1) × AreRuns r.end rs

-- the conflict of an index is in run k, or, where there is no run k, behind all runs
abbrev pub IsPlace : List Run → ℕ → ℕ → Type 0
IsPlace rs index k = (start_from 0 rs k ≤ index) × ((r : Run) → slice_get rs k ≡ Some r → index < r.end)

-- a conflict is the next one behind the last run
abbrev pub GoesOn : List Run → Conflict → Type 0
GoesOn rs c = (r : Run) × (slice_get rs (length rs - 1) ≡ Some r) × (1 ≤ c.terminal.0) × (r.last ≡ before 1 c)
