-- Positions whose follow lists are one position longer than that of the position before them.
use Rattle.std.specs.Prelude.{◌≡◌, ℕ, ◌+◌, List, slice_get, Option, Some, None}
use Rattle.ly_position.specs.declared.nfa.Fork.{Fork}
use Rattle.ly_position.specs.declared.nfa.Slot.{Slot}
use Rattle.ly_position.specs.declared.nfa.Slot.TheVariants as slot
use Rattle.ly_position.specs.declared.nfa.Target.{Target}
use Rattle.ly_position.specs.declared.nfa.Target.TheVariants as target

-- where a run goes on from a slot, if it does
abbrev pub next_of : Slot → Option Target
next_of (slot.Reads bytes next) = Some next
next_of (slot.Ends rule) = None

-- the target is the position before one
abbrev pub IsBefore : Target → ℕ → Type 0
IsBefore t number = (p : ℕ) × (t ≡ target.Position p) × (p + 1 ≡ number)

-- A run goes on from a position at the one before it.
pub record BeginsAt (slots : List Slot) (number : ℕ) : Type 0 where
  pub slot : Slot
  pub there : slice_get slots number ≡ Some slot
  pub next : Target
  pub goes_on : next_of slot ≡ Some next
  pub before : IsBefore next number

-- A run goes on from a position at a fork whose sides are the one before it and where that one goes on.
pub record GoesOnAt (slots : List Slot) (forks : List Fork) (number : ℕ) : Type 0 where
  pub slot : Slot
  pub there : slice_get slots number ≡ Some slot
  pub fork_number : ℕ
  pub fork : Fork
  pub fork_there : slice_get forks fork_number ≡ Some fork
  pub goes_on : next_of slot ≡ Some (target.Fork fork_number)
  pub first : IsBefore fork.first number
  pub lower : ℕ
  pub below : lower + 1 ≡ number
  pub lower_slot : Slot
  pub lower_there : slice_get slots lower ≡ Some lower_slot
  pub second : next_of lower_slot ≡ Some fork.second
