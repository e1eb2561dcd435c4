-- Rows of entries, as they are stored: as lists, and as combs.
use Rattle.std.specs.Prelude.{◌≡◌, ℕ, ◌+◌, ◌<◌, ◌≤◌, List, [], ◌∷◌, Option, Some, None, slice_get, Contains}
use Rattle.std.specs.Prelude.{length, map, option_and_then, nat_lt, nat_eq, if◌then◌else◌, All, AllPairs}
use Rattle.std.specs.Global.{Global, Vec}
use Rattle.std.specs.List.{range_with_len}
use Rattle.std.specs.declared.rc.Rc.{Rc}
use Rattle.ly_pack.specs.declared.cell.Cell.{Cell}

-- for a row and a column the entry there, if there is one
abbrev pub Entries : Type 0 → Type 0
Entries E = ℕ → ℕ → Option E

-- rows of entries, written out
abbrev pub Grid : Type 0 → Type 0
Grid E = List (List (Option E))

-- the entry of a row and a column
abbrev pub cell : {E : Type 0} → Grid E → Entries E
cell g row column = option_and_then (λ cells. option_and_then (λ e. e) (slice_get cells column)) (slice_get g row)

-- this many rows of entries, each of this width, written out
abbrev pub grid_of : {E : Type 0} → ℕ → ℕ → Entries E → Grid E
grid_of rows width entries = map (λ row. map (entries row) (range_with_len 0 width)) (range_with_len 0 rows)

-- each column is less than those after it
abbrev pub AreRising : {E : Type 0} → List (Cell E) → Type 0
AreRising cells = AllPairs (λ c d. c.column < d.column) cells

-- the entry of a column, if it is among these cells
abbrev pub entry_in : {E : Type 0} → List (Cell E) → ℕ → Option E
entry_in [] column = None
entry_in (c ∷ cells) column = if nat_eq column c.column then Some c.entry else entry_in cells column

-- Rows as lists: the entries of each row with their columns.
pub record Dense (E : Type 0) : Type 0 where
  pub rows : ℕ
  pub width : ℕ
  pub lists : List (List (Cell E))

-- the cells of a row, in an `Rc`
abbrev pub Counted : Type 0 → Type 0
Counted E = Rc (Vec (Cell E)) Global

abbrev pub dense_of : {E : Type 0} → ℕ → List (Counted E) → Dense E
dense_of width lists = record { rows = length lists; width = width; lists = map (λ cells. cells.value.items) lists }

-- the entry of a row and a column
abbrev pub dense_entry : {E : Type 0} → Dense E → Entries E
dense_entry d row column = option_and_then (λ cells. entry_in cells column) (slice_get d.lists row)

-- There is a list for each row, in which columns rise and are below the width.
pub record IsDense {E : Type 0} (d : Dense E) : Type 0 where
  pub rows : length d.lists ≡ d.rows
  pub rising : All AreRising d.lists
  pub within : All (All (λ c. c.column < d.width)) d.lists

-- Exactly the entries of a row with their columns, which rise.
pub record AreCellsOf {E : Type 0} (entries : ℕ → Option E) (cells : List (Cell E)) : Type 0 where
  pub rising : AreRising cells
  pub sound : (c : Cell E) → Contains cells c → entries c.column ≡ Some c.entry
  pub whole : (column : ℕ) (e : E) → entries column ≡ Some e → Contains cells (record { column = column; entry = e })

-- For each row its entries with their columns, which are below the width.
pub record AreAllCellsOf {E : Type 0} (entries : Entries E) (rows width : ℕ) (lists : List (Counted E)) : Type 0
  where
    pub count : length lists ≡ rows
    pub each : (row : ℕ) (cells : Counted E) → slice_get lists row ≡ Some cells
        → AreCellsOf (entries row) cells.value.items
    pub within : (row : ℕ) (cells : Counted E) → slice_get lists row ≡ Some cells
        → All (λ c. c.column < width) cells.value.items

-- A used slot: its row, and the entry.
pub record Used (E : Type 0) : Type 0 where
  pub row : ℕ
  pub entry : E

-- Rows laid over one another: row r begins at its base, and its entries are in slots that no other row uses (Tarjan and
-- Yao 1979; Aho, Sethi and Ullman 1986, 3.9).
pub record Comb (E : Type 0) : Type 0 where
  pub width : ℕ
  pub bases : List ℕ
  pub slots : List (Option (Used E))

-- the entry of a slot for a row, if the row uses it
abbrev pub given_to : {E : Type 0} → ℕ → Used E → Option E
given_to row slot = if nat_eq slot.row row then Some slot.entry else None

-- the entry of a row and a column
abbrev pub comb_entry : {E : Type 0} → Comb E → Entries E
comb_entry c row column = if nat_lt column c.width
    then option_and_then (λ base. option_and_then (λ slot. option_and_then (given_to row) slot)
    (slice_get c.slots (base + column))) (slice_get c.bases row) else None

-- Each base is within the list of slots or at its end, and a used slot is within its row.
pub record IsComb {E : Type 0} (c : Comb E) : Type 0 where
  pub bases : (row base : ℕ) → slice_get c.bases row ≡ Some base → base ≤ length c.slots
  pub slots : (k : ℕ) (slot : Used E) → slice_get c.slots k ≡ Some (Some slot)
      → (base : ℕ) × (slice_get c.bases slot.row ≡ Some base) × (base ≤ k) × (k < base + c.width)
