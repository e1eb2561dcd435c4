-- The bases of a comb's rows: first fit, the rows with the most entries first (Tarjan and Yao 1979).
use Rattle.std.specs.Prelude.{◌≡◌, ◌≢◌, ◌⊎◌, ◌↔◌, ℕ, suc, ◌+◌, ◌<◌, List, length, filter, Some}
use Rattle.std.specs.Prelude.{slice_get, is_some}
use Rattle.std.specs.List.{range_with_len}
use Rattle.ly_pack.specs.Rows.{Entries, Comb, Used}

-- Rows of entries: the entries, the number of rows, and their width.
pub record Table (E : Type 0) : Type 0 where
  pub entries : Entries E
  pub rows : ℕ
  pub width : ℕ

-- a row has an entry in a column
abbrev pub Has : {E : Type 0} → Table E → ℕ → ℕ → Type 0
Has T row column = (column < T.width) × (e : _) × (T.entries row column ≡ Some e)

-- the number of entries of a row
abbrev pub entry_count : {E : Type 0} → Table E → ℕ → ℕ
entry_count T row = length (filter (λ column. is_some (T.entries row column)) (range_with_len 0 T.width))

-- a row is placed before another: it has more entries, or equally many and a lower number
abbrev pub GoesBefore : {E : Type 0} → Table E → ℕ → ℕ → Type 0
GoesBefore T r s = (entry_count T s < entry_count T r) ⊎ ((entry_count T r ≡ entry_count T s) × (r < s))

-- at this base a row shares no slot with a row that is placed before it
abbrev pub Fits : {E : Type 0} → Table E → List ℕ → ℕ → ℕ → Type 0
Fits T bases row base = (other there column its : ℕ) → other < T.rows → GoesBefore T other row
    → slice_get bases other ≡ Some there → Has T row column → Has T other its → base + column ≢ there + its

-- The comb has the rows: each with entries begins at the least base where it fits, and each without at 0; a slot is
-- used exactly if a row has an entry for it; and the last slot is used.
pub record IsPlaced {E : Type 0} (T : Table E) (c : Comb E) : Type 0 where
  pub width : c.width ≡ T.width
  pub rows : length c.bases ≡ T.rows
  pub fits : (row base : ℕ) → slice_get c.bases row ≡ Some base → Fits T c.bases row base
  pub least : (row base lower column : ℕ) → slice_get c.bases row ≡ Some base → Has T row column → lower < base
      → Fits T c.bases row lower → ⊥
  pub empty : (row base : ℕ) → slice_get c.bases row ≡ Some base → ((column : ℕ) → Has T row column → ⊥) → base ≡ 0
  pub slots : (k row : ℕ) (e : E) → (slice_get c.slots k ≡ Some (Some (record { row = row; entry = e })))
      ↔ ((base column : ℕ) × (slice_get c.bases row ≡ Some base) × (column < T.width)
      × (T.entries row column ≡ Some e) × (k ≡ base + column))
  pub short : (k : ℕ) → suc k ≡ length c.slots → (slot : Used E) × (slice_get c.slots k ≡ Some (Some slot))
