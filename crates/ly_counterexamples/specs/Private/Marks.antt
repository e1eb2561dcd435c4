-- Marks for numbers below a count.
use Rattle.std.specs.Prelude.{◌≡◌, ◌↔◌, ◌⊎◌, ◌<◌, ℕ, List, Bool, true, false, length, slice_index_or}

-- the number is marked
abbrev pub IsMarked : List Bool → ℕ → Type 0
IsMarked marks n = slice_index_or marks n false ≡ true

-- of the numbers below a count just those with a property are marked
pub record AreMarked (count : ℕ) (P : ℕ → Type 0) (marks : List Bool) : Type 0 where
  pub long : length marks ≡ count
  pub exact : (n : ℕ) → IsMarked marks n ↔ ((n < count) × P n)

-- of the numbers that have a mark or none, just those with a property were marked too
pub record AreAdded (P : ℕ → Type 0) (old new : List Bool) : Type 0 where
  pub long : length new ≡ length old
  pub exact : (n : ℕ) → IsMarked new n ↔ (IsMarked old n ⊎ ((n < length old) × P n))

-- of some steps one before the one of this number has the property
abbrev pub ByStepBefore : (ℕ → ℕ → Type 0) → ℕ → ℕ → Type 0
ByStepBefore P i n = (k : ℕ) × (k < i) × P k n
