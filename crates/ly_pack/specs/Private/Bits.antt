-- A row of bits: bit k is bit k % 64 of word k / 64, and 0 past the end.
use Rattle.std.specs.Prelude.{◌≡◌, ℕ, ◌+◌, ◌/◌, ◌%◌, ◌<◌, List, length, slice_index, Contains}
use Rattle.std.specs.Global.{Vec}
use Rattle.std.specs.Int.{bit_at}

-- 1 where the place is taken, else 0
abbrev pub taken : List ℕ → ℕ → ℕ
taken words k = bit_at (slice_index words (k / 64)) (k % 64)

-- at a base every column's place is free
abbrev pub IsFreeAt : List ℕ → List ℕ → ℕ → Type 0
IsFreeAt words columns base = (j : ℕ) → j < length columns → taken words (base + slice_index columns j) ≡ 0

-- at a base some column's place is taken
abbrev pub IsTakenAt : List ℕ → List ℕ → ℕ → Type 0
IsTakenAt words columns base = (j : ℕ) × (j < length columns) × (taken words (base + slice_index columns j) ≡ 1)

-- every place that was taken still is
abbrev pub AreStillTaken : List ℕ → List ℕ → Type 0
AreStillTaken old new = (k : ℕ) → taken old k ≡ 1 → taken new k ≡ 1

-- for each of these lists of columns, at each base below that beside it, some column's place is taken
abbrev pub AreTakenBelow : List ℕ → List (Vec ℕ × ℕ) → Type 0
AreTakenBelow words bases = (columns : Vec ℕ) (base : ℕ) → Contains bases (columns, base) → (lower : ℕ) → lower < base
    → IsTakenAt words columns.items lower
