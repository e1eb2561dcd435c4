-- The positions and the forks of a program, each numbered in the order of the program.
use Rattle.std.specs.Prelude.{◌≡◌, ◌≢◌, ◌↔◌, ℕ, ◌<◌, List, length, take, filter, slice_get, AllPairs, Bool}
use Rattle.std.specs.Prelude.{true, false, Contains, Option, Some}
use Rattle.std.specs.List.{AllZip}
use Rattle.ly_base.specs.ByteSet.{members}
use Rattle.ly_position.specs.Private.Program.{ProgramStep, reads, fork, ends}
use Rattle.ly_position.specs.Private.Reach.{Reached}
use Rattle.ly_position.specs.declared.nfa.Fork.{Fork}
use Rattle.ly_position.specs.declared.nfa.Slot.{Slot}
use Rattle.ly_position.specs.declared.nfa.Slot.TheVariants as slot
use Rattle.ly_position.specs.declared.nfa.Target.{Target}
use Rattle.ly_position.specs.declared.nfa.Target.TheVariants as target

-- a step is a position
abbrev pub is_position : ProgramStep → Bool
is_position (reads bytes q) = true
is_position (fork a b) = false
is_position (ends i) = true

-- a step is a fork
abbrev pub is_fork : ProgramStep → Bool
is_fork (reads bytes q) = false
is_fork (fork a b) = true
is_fork (ends i) = false

-- how many steps before step p pass a test
abbrev pub rank : (ProgramStep → Bool) → List ProgramStep → ℕ → ℕ
rank test g p = length (filter test (take p g))

-- what a step is that stands at p
abbrev pub target_at : List ProgramStep → ℕ → Option ProgramStep → Target
target_at g p (Some (fork a b)) = target.Fork (rank is_fork g p)
target_at g p _ = target.Position (rank is_position g p)

-- what step p is
abbrev pub target_of : List ProgramStep → ℕ → Target
target_of g p = target_at g p (slice_get g p)

-- these say what each step is
pub record AreTargets (g : List ProgramStep) (targets : List Target) : Type 0 where
  pub count : length targets ≡ length g
  pub each : (p : ℕ) → p < length g → slice_get targets p ≡ Some (target_of g p)

-- a slot is a step that is a position
abbrev pub IsSlotOf : List ProgramStep → ProgramStep → Slot → Type 0
IsSlotOf g (reads bytes next) (slot.Reads b t) = (bytes ≡ members b) × (t ≡ target_of g next)
IsSlotOf g (reads bytes next) (slot.Ends r) = ⊥
IsSlotOf g (fork a b) s = ⊥
IsSlotOf g (ends i) (slot.Reads b t) = ⊥
IsSlotOf g (ends i) (slot.Ends r) = i ≡ r.0

-- the sides of a fork are those of the step
abbrev pub IsForkOf : List ProgramStep → ProgramStep → Fork → Type 0
IsForkOf g (reads bytes next) f = ⊥
IsForkOf g (fork a b) f = (f.first ≡ target_of g a) × (f.second ≡ target_of g b)
IsForkOf g (ends i) f = ⊥

-- the program by what its steps are, its positions and its forks
pub record IsLinkOf (g : List ProgramStep) (targets : List Target) (slots : List Slot)
    (forks : List Fork) : Type 0 where
  pub targets_are : AreTargets g targets
  pub slots_are : AllZip (IsSlotOf g) (filter is_position g) slots
  pub forks_are : AllZip (IsForkOf g) (filter is_fork g) forks

-- step p is position q
pub record IsNumber (g : List ProgramStep) (p q : ℕ) : Type 0 where
  pub step : ProgramStep
  pub is_step : slice_get g p ≡ Some step
  pub reads_or_ends : is_position step ≡ true
  pub is_rank : rank is_position g p ≡ q

-- q is a position that is reached from the roots by forks alone
abbrev pub IsReachedNumber : List ProgramStep → List ℕ → ℕ → Type 0
IsReachedNumber g roots q = (p : ℕ) × Reached g roots p × IsNumber g p q

-- the list has the positions that are reached from the roots by forks alone, each once
pub record IsReachList (g : List ProgramStep) (roots list : List ℕ) : Type 0 where
  pub members : (q : ℕ) → Contains list q ↔ IsReachedNumber g roots q
  pub once : AllPairs (λ a b. a ≢ b) list
