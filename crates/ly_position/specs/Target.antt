-- Successors in runs: positions, and forks with two sides.
use Rattle.std.specs.Prelude.{ℕ, ◌<◌, List, length, All}
use Rattle.ly_position.specs.declared.nfa.Fork.{Fork}
use Rattle.ly_position.specs.declared.nfa.Slot.{Slot}
use Rattle.ly_position.specs.declared.nfa.Slot.TheVariants as slot
use Rattle.ly_position.specs.declared.nfa.Target.{Target}
use Rattle.ly_position.specs.declared.nfa.Target.TheVariants as target

-- one of the first n positions, or of the first m forks
abbrev pub TargetWithin : ℕ → ℕ → Target → Type 0
TargetWithin n m (target.Position p) = p < n
TargetWithin n m (target.Fork k) = k < m

-- both sides are within these bounds
abbrev pub ForkWithin : ℕ → ℕ → Fork → Type 0
ForkWithin n m f = TargetWithin n m f.first × TargetWithin n m f.second

-- the successor of the position is within these bounds
abbrev pub SlotWithin : ℕ → ℕ → Slot → Type 0
SlotWithin n m (slot.Reads bytes next) = TargetWithin n m next
SlotWithin n m (slot.Ends rule) = Unit {0}

-- the successors of all positions and forks exist
pub record GoOnWithin (slots : List Slot) (forks : List Fork) : Type 0 where
  pub reads : All (SlotWithin (length slots) (length forks)) slots
  pub forks_within : All (ForkWithin (length slots) (length forks)) forks

-- these successors exist, and so do the members of the start lists
pub record TargetsExist (slots : List Slot) (forks : List Fork) (starts : List (List ℕ)) : Type 0 where
  pub within : GoOnWithin slots forks
  pub starts_within : All (All (λ q. q < length slots)) starts
