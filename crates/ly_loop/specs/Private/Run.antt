-- Runs on stacks of states that are kept with their tops last.
use Rattle.std.specs.Prelude.{◌≡◌, ℕ, ◌<◌, ◌^◌, Bool, true, false, List, map, reverse, All}
use Rattle.ly_base.specs.declared.numbers.StateNo.{StateNo}
use Rattle.ly_pack.specs.Machine.{IsMachine, AreEntriesWithin, Machine, reduce, states_of}
use Rattle.ly_pack.specs.Steady.{EndsWithin, RunEnd, ends, goes_on, perform}

-- Tables whose states and symbols can be counted by their numbers.
pub record IsCountable (m : Machine) : Type 0 where
  pub machine : IsMachine m
  pub within : AreEntriesWithin m
  pub states : states_of m < 2 ^ 32
  pub terminals : m.terminals < 2 ^ 32
  pub nonterminals : m.nonterminals < 2 ^ 32

-- the stack, its top first
abbrev pub stack_of : List StateNo → List ℕ
stack_of states = reverse (map (λ s. s.0) states)

-- the states are there
abbrev pub AreStates : Machine → List StateNo → Type 0
AreStates m states = All (λ s. s.0 < states_of m) states

-- a reduction was made, or the run ends by it
abbrev pub MakesReduction : Machine → ℕ → List ℕ → Bool → List ℕ → Type 0
MakesReduction m p old true new = perform m old (reduce p) ≡ goes_on new
MakesReduction m p old false new = (e : RunEnd) × (perform m old (reduce p) ≡ ends e)

-- the run ends so, or it doesn't
abbrev pub EndsAs : Machine → ℕ → List ℕ → ℕ → Bool → Type 0
EndsAs m t stack bound true = EndsWithin m t stack bound
EndsAs m t stack bound false = EndsWithin m t stack bound → ⊥
