-- Combs that are not whole yet: some rows are placed.
use Rattle.std.specs.Prelude.{◌≡◌, ◌≢◌, ◌⊎◌, ◌↔◌, ℕ, suc, ◌+◌, ◌<◌, ◌≤◌, List, length, Option, Some, None, slice_get}
use Rattle.std.specs.Prelude.{option_and_then}
use Rattle.ly_pack.specs.Placement.{Fits, Has, Table}
use Rattle.ly_pack.specs.Private.Bits.{taken}
use Rattle.ly_pack.specs.Private.Order.{IsOrder}
use Rattle.ly_pack.specs.Rows.{Dense, dense_entry}
use Rattle.ly_pack.specs.declared.comb_rows.Slot.{Slot}

-- the table of rows as lists
abbrev pub table_of : {E : Type 0} → Dense E → Table E
table_of d = record { entries = dense_entry d; rows = d.rows; width = d.width }

-- a slot that this row uses for this entry
abbrev pub slot_of : {E : Type 0} → ℕ → E → Slot E
slot_of row e = record { row = record { 0 = row }; entry = e }

-- what stands in a slot, if it is used
abbrev pub slot_at : {X : Type 0} → List (Option X) → ℕ → Option X
slot_at slots k = option_and_then (λ slot. slot) (slice_get slots k)

-- 1 where a slot is used, else 0
abbrev pub flag : {X : Type 0} → Option X → ℕ
flag None = 0
flag (Some x) = 1

-- the bits tell which slots are used
abbrev pub AreTied : {X : Type 0} → List ℕ → List (Option X) → Type 0
AreTied words slots = (k : ℕ) → taken words k ≡ flag (slot_at slots k)

-- A row's entries have been put into the slots from a base on, and nothing else.
pub record IsFilled {E : Type 0} (T : Table E) (row : ℕ) (old new : List (Option (Slot E))) (base : ℕ) : Type 0 where
  pub entries : (column : ℕ) (e : E) → column < T.width → T.entries row column ≡ Some e
      → slot_at new (base + column) ≡ Some (slot_of row e)
  pub others : (k : ℕ) → ((column : ℕ) → Has T row column → k ≢ base + column) → slot_at new k ≡ slot_at old k
  pub grows : length old ≤ length new
  pub short : (k : ℕ) → suc k ≡ length new
      → (suc k ≡ length old) ⊎ ((column : ℕ) × Has T row column × (k ≡ base + column))

-- A row has been placed at the least base where the slots of its entries were free.
pub record IsRowPlaced {E : Type 0} (T : Table E) (row : ℕ) (old new : List (Option (Slot E))) (base : ℕ) : Type 0 where
  pub free : (column : ℕ) → Has T row column → slot_at old (base + column) ≡ None
  pub least : (lower : ℕ) → lower < base
      → (column : ℕ) × Has T row column × (s : Slot E) × (slot_at old (lower + column) ≡ Some s)
  pub empty : ((column : ℕ) → Has T row column → ⊥) → base ≡ 0
  pub filled : IsFilled T row old new base
  pub within : base ≤ length new

-- row number i of the order, below n, uses the slot for this entry
abbrev pub Uses : {E : Type 0} → Table E → List ℕ → ℕ → List ℕ → ℕ → ℕ → E → Type 0
Uses T order n bases k row e = (i base column : ℕ) × (i < n) × (slice_get order i ≡ Some row)
    × (slice_get bases row ≡ Some base) × (column < T.width) × (T.entries row column ≡ Some e) × (k ≡ base + column)

-- The first n rows of the order are placed.
pub record AreLaid {E : Type 0} (T : Table E) (order : List ℕ) (n : ℕ) (bases : List ℕ) (slots : List (Option (Slot E)))
    : Type 0 where
  pub long : length bases ≡ T.rows
  pub near : (row base : ℕ) → slice_get bases row ≡ Some base → base ≤ length slots
  pub uses : (k row : ℕ) (e : E) → (slot_at slots k ≡ Some (slot_of row e)) ↔ Uses T order n bases k row e
  pub fits : (i row base : ℕ) → i < n → slice_get order i ≡ Some row → slice_get bases row ≡ Some base
      → Fits T bases row base
  pub least : (i row base lower column : ℕ) → i < n → slice_get order i ≡ Some row → slice_get bases row ≡ Some base
      → Has T row column → lower < base → Fits T bases row lower → ⊥
  pub empty : (i row base : ℕ) → i < n → slice_get order i ≡ Some row → slice_get bases row ≡ Some base
      → ((column : ℕ) → Has T row column → ⊥) → base ≡ 0
  pub short : (k : ℕ) → suc k ≡ length slots → (s : Slot E) × (slot_at slots k ≡ Some s)

-- All rows are placed, in some order that their numbers of entries allow.
pub record AreAllLaid {E : Type 0} (T : Table E) (bases : List ℕ) (slots : List (Option (Slot E))) : Type 0 where
  pub order : List ℕ
  pub ordered : IsOrder T order
  pub laid : AreLaid T order (length order) bases slots
