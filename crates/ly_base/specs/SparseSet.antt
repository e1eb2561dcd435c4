-- Sets of numbers below a bound, with the order in which their members were added (Briggs and Torczon 1993).
use Rattle.std.specs.Prelude.{◌≡◌, ℕ, ◌<◌, ◌≤◌, ◌^◌, ◌++◌, List, [], ◌∷◌, length, take, fold, slice_index, nat_eq}
use Rattle.std.specs.Prelude.{if◌then◌else◌}
use Rattle.std.specs.List.{list_any}
use Rattle.ly_base.specs.declared.sparse_set.SparseSet.TheInside.{Inside}

-- the bound, and the members in the order in which they were added
pub record Chosen : Type 0 where
  pub below : ℕ
  pub members : List ℕ

-- the members after a number is added at the end, if it is new
abbrev pub with_member : List ℕ → ℕ → List ℕ
with_member members number = if list_any (nat_eq number) members then members else members ++ number ∷ []

-- the members after some numbers are added in their order
abbrev pub with_members : List ℕ → List ℕ → List ℕ
with_members members numbers = fold with_member members numbers

-- The first `size` slots are the members. They are below the bound and fit into 32 bits, and `places` has the slot of
-- each.
pub record IsPlaced (slots places : List ℕ) (size : ℕ) : Type 0 where
  pub same_bound : length slots ≡ length places
  pub room : size ≤ length slots
  pub within : (k : ℕ) → k < size → slice_index slots k < length places
  pub numbers : (k : ℕ) → k < size → slice_index slots k < 2 ^ 32
  pub placed : (k : ℕ) → k < size → slice_index places (slice_index slots k) ≡ k

abbrev pub chosen : Inside → Chosen
chosen s = record { below = length s.places.items; members = take s.size s.slots.items }
