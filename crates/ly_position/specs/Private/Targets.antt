-- What runs come to by forks alone, and what sets of positions hold.
use Rattle.std.specs.Prelude.{◌≡◌, ◌≢◌, ◌⊎◌, ◌↔◌, ◌<◌, ℕ, List, [], length, slice_get, slice_index_or}
use Rattle.std.specs.Prelude.{AllPairs, Contains, Option, Some, None, if◌then◌else◌}
use Rattle.ly_base.specs.ByteSet.{has}
use Rattle.ly_base.specs.SparseSet.{with_member}
use Rattle.ly_position.specs.declared.nfa.Fork.{Fork}
use Rattle.ly_position.specs.declared.nfa.Slot.{Slot}
use Rattle.ly_position.specs.declared.nfa.Slot.TheVariants as slot
use Rattle.ly_position.specs.declared.nfa.Target.{Target}
use Rattle.ly_position.specs.declared.nfa.Target.TheVariants as target
use Rattle.ly_position.specs.declared.set.PositionSet.{PositionSet}

-- a side of a fork
abbrev pub IsSide : Fork → Target → Type 0
IsSide f t = (f.first ≡ t) ⊎ (f.second ≡ t)

-- a run comes from one target to another by forks alone
pub data ForksTo (forks : List Fork) (from : Target) : Target → Type 0 where
  here : ForksTo forks from from
  onward : {k : ℕ} {f : Fork} {t : Target} → ForksTo forks from (target.Fork k) → slice_get forks k ≡ Some f
      → IsSide f t → ForksTo forks from t

-- where a position goes on once it reads the byte, if it does
abbrev pub target_after : ℕ → Slot → Option Target
target_after byte (slot.Reads bytes next) = if has bytes byte then Some next else None
target_after byte (slot.Ends rule) = None

-- position p goes on at the target once it reads the byte
abbrev pub GoesOn : List Slot → ℕ → ℕ → Target → Type 0
GoesOn slots byte p t = (s : Slot) × (slice_get slots p ≡ Some s) × (target_after byte s ≡ Some t)

-- position q is reached by forks alone from where one of some positions goes on once it reads the byte
abbrev pub StepsTo : List Slot → List Fork → List ℕ → ℕ → ℕ → Type 0
StepsTo slots forks ps byte q = (p : ℕ) × (t : Target) × Contains ps p × GoesOn slots byte p t
    × ForksTo forks t (target.Position q)

-- position q is reached by forks alone from what one of some instructions is
abbrev pub EntersTo : List Target → List Fork → List ℕ → ℕ → Type 0
EntersTo targets forks roots q = (r : ℕ) × (t : Target) × Contains roots r × (slice_get targets r ≡ Some t)
    × ForksTo forks t (target.Position q)

-- the list has the positions that are so reached, each once
pub record IsEnteredList (targets : List Target) (forks : List Fork) (roots list : List ℕ) : Type 0 where
  pub members : (q : ℕ) → Contains list q ↔ EntersTo targets forks roots q
  pub once : AllPairs (λ a b. a ≢ b) list

-- so is each list, from the roots of its number
pub record AreEnteredLists (targets : List Target) (forks : List Fork) (roots lists : List (List ℕ)) : Type 0 where
  pub count : length lists ≡ length roots
  pub each : (k : ℕ) → k < length roots
      → IsEnteredList targets forks (slice_index_or roots k []) (slice_index_or lists k [])

-- the set with one more target
abbrev pub with_target : PositionSet → Target → PositionSet
with_target s (target.Position p)
    = record s { positions = record s.positions { members = with_member s.positions.members p } }
with_target s (target.Fork k) = record s { forks = record s.forks { members = with_member s.forks.members k } }

-- the set has the target
abbrev pub Has : PositionSet → Target → Type 0
Has s (target.Position p) = Contains s.positions.members p
Has s (target.Fork k) = Contains s.forks.members k

-- as much room as before
pub record SameRoom (old new : PositionSet) : Type 0 where
  pub positions : new.positions.below ≡ old.positions.below
  pub forks : new.forks.below ≡ old.forks.below

-- the new set has what is reached by forks alone from what the old one has
abbrev pub Closes : List Fork → PositionSet → PositionSet → Type 0
Closes forks old new = (u : Target) → Has new u ↔ ((t : Target) × Has old t × ForksTo forks t u)
