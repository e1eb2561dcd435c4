-- How a matrix stores its rows: each refers to a stored row, and several may refer to the same one.
use Rattle.std.specs.Prelude.{◌≡◌, ◌+◌, ◌*◌, ◌/◌, ◌<◌, ◌≤◌, ◌++◌, ◌∷◌, [], ℕ, List, Bool, length, map, true, false}
use Rattle.std.specs.Prelude.{slice_index, slice_index_or, slice_range}
use Rattle.ly_sets.specs.NumberSet.{NumberSet, row_set, AllBelow}
use Rattle.ly_sets.specs.SetMatrix.{row}
use Rattle.ly_sets.specs.declared.rows.Rows.{Rows}

-- the set of a stored row of `stride` words
abbrev pub stored_set : ℕ → List ℕ → ℕ → NumberSet
stored_set stride words k = row_set (k * stride) stride words

-- the sets of the rows with these stored rows
abbrev pub sets_by : ℕ → List ℕ → List ℕ → List NumberSet
sets_by stride words stored = map (stored_set stride words) stored

abbrev pub sets_of : Rows → List NumberSet
sets_of r = sets_by r.stride r.words.items r.stored.items

-- Stored rows are whole blocks, one after another. Each row refers to one, and a stored row that isn't shared is
-- referred to once.
pub record IsLaid (stride : ℕ) (words : List ℕ) (shared : List Bool) (stored : List ℕ) : Type 0 where
  pub blocks : (stride / 4) * 4 ≡ stride
  pub long : length words ≡ length shared * stride
  pub named : (i : ℕ) → i < length stored → slice_index stored i < length shared
  pub once : (i j : ℕ) → i < length stored → j < length stored → slice_index stored i ≡ slice_index stored j
      → slice_index_or shared (slice_index stored i) true ≡ false → i ≡ j

abbrev pub IsLaidOut : Rows → Type 0
IsLaidOut r = IsLaid r.stride r.words.items r.shared.items r.stored.items

abbrev pub HasRow : Rows → ℕ → Type 0
HasRow r i = i < length r.stored.items

-- no other row refers to the stored row of row i
abbrev pub IsAlone : Rows → ℕ → Type 0
IsAlone r i = slice_index_or r.shared.items (slice_index r.stored.items i) true ≡ false

-- the words from `start` on were copied to a new stored row with this number, which nothing shares
pub record IsCopied (r r' : Rows) (start number : ℕ) : Type 0 where
  pub numbered : number ≡ length r.shared.items
  pub words : r'.words.items ≡ r.words.items ++ slice_range r.words.items start (start + r.stride)
  pub shared : r'.shared.items ≡ r.shared.items ++ false ∷ []

-- the rows have capacity for the matrix's width, and their members are below it
pub record IsKept (width : ℕ) (r : Rows) : Type 0 where
  pub laid : IsLaidOut r
  pub room : width ≤ 64 * r.stride
  pub bounds : (i : ℕ) → AllBelow width (row (sets_of r) i)
