-- Partitions whose marked states can be split off (Valmari: Fast brief practical DFA minimization, 2012).
use Rattle.std.specs.Prelude.{◌≡◌, ◌≢◌, ◌↔◌, ℕ, ◌<◌, ◌≤◌, ◌^◌, ◌++◌, List, [], ◌∷◌, length, slice_index}
use Rattle.std.specs.Prelude.{slice_set, Contains, Option, Some, ◌⊎◌}
use Rattle.ly_minim.specs.declared.partition.Partition.{Partition}

-- n states laid out block by block: each state's place and block, and for each block where it begins, where its marked
-- states end, and where it ends
pub record IsLaid (n : ℕ) (states place of first middle end : List ℕ) : Type 0 where
  pub fits : n < 2 ^ 32
  pub states_count : length states ≡ n
  pub place_count : length place ≡ n
  pub of_count : length of ≡ n
  pub middle_count : length middle ≡ length first
  pub end_count : length end ≡ length first
  pub place_within : (s : ℕ) → s < n → slice_index place s < n
  pub at_place : (s : ℕ) → s < n → slice_index states (slice_index place s) ≡ s
  pub state_within : (i : ℕ) → i < n → slice_index states i < n
  pub place_at : (i : ℕ) → i < n → slice_index place (slice_index states i) ≡ i
  pub within : (s : ℕ) → s < n → slice_index of s < length first
  pub begins : (s : ℕ) → s < n → slice_index first (slice_index of s) ≤ slice_index place s
  pub ends : (s : ℕ) → s < n → slice_index place s < slice_index end (slice_index of s)
  pub block : (b i : ℕ) → b < length first → slice_index first b ≤ i → i < slice_index end b
      → slice_index of (slice_index states i) ≡ b
  pub low : (b : ℕ) → b < length first → slice_index first b ≤ slice_index middle b
  pub high : (b : ℕ) → b < length first → slice_index middle b ≤ slice_index end b
  pub some : (b : ℕ) → b < length first → slice_index first b < slice_index end b
  pub inside : (b : ℕ) → b < length first → slice_index end b ≤ n

-- so the fields are
abbrev pub IsPartition : Partition → Type 0
IsPartition p = IsLaid (length p.of.items) p.states.items p.place.items p.of.items p.first.items p.middle.items
    p.end.items

-- the block of a state
abbrev pub home : Partition → ℕ → ℕ
home p s = slice_index p.of.items s

-- the state is marked
abbrev pub IsMarked : Partition → ℕ → Type 0
IsMarked p s = slice_index p.place.items s < slice_index p.middle.items (home p s)

-- no state of the block is marked
abbrev pub IsClear : Partition → ℕ → Type 0
IsClear p b = slice_index p.middle.items b ≡ slice_index p.first.items b

-- no state is marked
abbrev pub AreClear : Partition → Type 0
AreClear p = (b : ℕ) → b < length p.first.items → IsClear p b

-- the state has a key of the list
abbrev pub IsKeyed : (ℕ → Option ℕ) → List ℕ → ℕ → Type 0
IsKeyed key keys s = (k : ℕ) × Contains keys k × (key s ≡ Some k)

-- the state has one of the first keys
abbrev pub HasKeyBelow : (ℕ → Option ℕ) → List ℕ → ℕ → ℕ → Type 0
HasKeyBelow key keys count s = (i : ℕ) × (i < count) × (key s ≡ Some (slice_index keys i))

-- one of two facts holds and the other doesn't
abbrev pub ExactlyOne : Type 0 → Type 0 → Type 0
ExactlyOne P Q = (P × (Q → ⊥)) ⊎ ((P → ⊥) × Q)

-- a list of states that has all states of a block or none of them
pub record IsUnion (of xs : List ℕ) : Type 0 where
  pub inside : (s : ℕ) → Contains xs s → s < length of
  pub whole : (s t : ℕ) → t < length of → Contains xs s → slice_index of t ≡ slice_index of s → Contains xs t

-- the blocks that have marked states are in the list from a place on
pub record AreTouched (p : Partition) (from : ℕ) (touched : List ℕ) : Type 0 where
  pub blocks : (i : ℕ) → i < length touched → slice_index touched i < length p.first.items
  pub all : (b : ℕ) → b < length p.first.items → (IsClear p b → ⊥)
      → (i : ℕ) × (from ≤ i) × (i < length touched) × (slice_index touched i ≡ b)

-- the blocks are the same
pub record HasSameBlocks (old new : Partition) : Type 0 where
  pub of : new.of.items ≡ old.of.items
  pub first : new.first.items ≡ old.first.items

-- one more state is marked
pub record IsMarking (state : ℕ) (old new : Partition) : Type 0 where
  pub laid : IsPartition new
  pub same : HasSameBlocks old new
  pub others : (b : ℕ) → b ≢ home old state → slice_index new.middle.items b ≡ slice_index old.middle.items b
  pub marked : (s : ℕ) → s < length old.of.items → (IsMarked new s ↔ (IsMarked old s ⊎ (s ≡ state)))

-- the block keeps some places, and a new one has the others
pub record IsCut (block kept kept_end part part_end : ℕ) (old new : Partition) : Type 0 where
  pub states : new.states.items ≡ old.states.items
  pub place : new.place.items ≡ old.place.items
  pub first : new.first.items ≡ slice_set old.first.items block kept ++ part ∷ []
  pub middle : new.middle.items ≡ slice_set old.middle.items block kept ++ part ∷ []
  pub end : new.end.items ≡ slice_set old.end.items block kept_end ++ part_end ∷ []
  pub count : length new.of.items ≡ length old.of.items
  pub moved : (s : ℕ) → s < length old.of.items → part ≤ slice_index old.place.items s
      → slice_index old.place.items s < part_end → home new s ≡ length old.first.items
  pub others : (s : ℕ) → s < length old.of.items
      → (slice_index old.place.items s < part) ⊎ (part_end ≤ slice_index old.place.items s) → home new s ≡ home old s

-- two parts of a block: one ends where the other begins
pub record AreParts (block kept kept_end part part_end : ℕ) (p : Partition) : Type 0 where
  pub kept_some : kept < kept_end
  pub part_some : part < part_end
  pub parts : ((kept ≡ slice_index p.first.items block) × (kept_end ≡ part)
      × (part_end ≡ slice_index p.end.items block))
      ⊎ ((part ≡ slice_index p.first.items block) × (part_end ≡ kept) × (kept_end ≡ slice_index p.end.items block))

-- the block is split in its marked states and the others, if it has both; then none of them is marked
pub record IsSplit (block : ℕ) (old new : Partition) : Type 0 where
  pub laid : IsPartition new
  pub count : length new.of.items ≡ length old.of.items
  pub more : length old.first.items ≤ length new.first.items
  pub place : new.place.items ≡ old.place.items
  pub finer : (s t : ℕ) → s < length old.of.items → t < length old.of.items → home new s ≡ home new t
      → home old s ≡ home old t
  pub apart : (s t : ℕ) → s < length old.of.items → t < length old.of.items → home old s ≡ home old t
      → home new s ≢ home new t → (home old s ≡ block) × ExactlyOne (IsMarked old s) (IsMarked old t)
  pub kept : (s : ℕ) → s < length old.of.items → home old s ≢ block → home new s ≡ home old s
  pub moved : (s : ℕ) → s < length old.of.items → home old s ≡ block
      → (home new s ≡ block) ⊎ (length old.first.items ≤ home new s)
  pub same_first : (b : ℕ) → b < length old.first.items → b ≢ block
      → slice_index new.first.items b ≡ slice_index old.first.items b
  pub same_middle : (b : ℕ) → b < length old.first.items → b ≢ block
      → slice_index new.middle.items b ≡ slice_index old.middle.items b
  pub clear : (b : ℕ) → b < length new.first.items → (b ≡ block) ⊎ (length old.first.items ≤ b) → IsClear new b

-- states of one block of the new partition are in one block of the old one
abbrev pub IsFiner : Partition → Partition → Type 0
IsFiner old new = (s t : ℕ) → s < length old.of.items → t < length old.of.items → home new s ≡ home new t
    → home old s ≡ home old t

-- states of which exactly one has a key of the list are taken apart, and no others
abbrev pub AreSplitBy : (ℕ → Option ℕ) → List ℕ → Partition → Partition → Type 0
AreSplitBy key keys old new = (s t : ℕ) → s < length old.of.items → t < length old.of.items → home old s ≡ home old t
    → home new s ≢ home new t → ExactlyOne (IsKeyed key keys s) (IsKeyed key keys t)
