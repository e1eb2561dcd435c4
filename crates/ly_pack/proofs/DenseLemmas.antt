-- Rows as lists, and what a write to one of them changes.
use Rattle.std.proofs.Common.{◌≡◌, ◌≢◌, ◌∙◌, ◌-◌, ◌<◌, ◌≤◌, ◌∷◌, [], ◌&&◌, ℕ, suc, List, length, map, Option}
use Rattle.std.proofs.Common.{None, Some, slice_index_or, slice_set}
use Rattle.std.proofs.Common.{refl, sym, ap, ap₂, subst, arith, inl, inr, slice_get, set, nat_eq, Bool, All}
use Rattle.std.specs.Prelude.{option_and_then, option_map, if◌then◌else◌, replicate}
use Rattle.std.proofs.lemmas.Bool.{and_left, cases_Bool, cases_lt, cond-false, eqb-false, eqb-true}
use Rattle.std.proofs.lemmas.Bool.{ne_eqb}
use Rattle.std.proofs.lemmas.List.{get_or-replicate, length-map, length-replicate, length-set, map-set}
use Rattle.std.proofs.Math.Seq.{map-set_same}
use Rattle.std.proofs.lemmas.List.Elements.{All-set, All-replicate}
use Rattle.std.proofs.lemmas.Option.{slice_get-get_or, slice_get-map, slice_get_past, slice_get_read}
use Rattle.ly_base.proofs.CellLemmas.{slice_get-set_other, slice_get-set_same}
use Rattle.ly_base.proofs.ListLemmas.{All-at, some_at}
use Rattle.ly_pack.specs.Rows.{AreAllCellsOf, AreCellsOf, AreRising, Counted, Dense, IsDense, dense_entry, dense_of}
use Rattle.ly_pack.specs.Rows.{entry_in}
use Rattle.ly_pack.specs.declared.cell.Cell.{Cell}
use Rattle.ly_pack.proofs.CellLemmas.{cells_are}

module _ {E : Type 0} (d : Dense E) where
  pub dense_entry-at : (row column : ℕ) (cells : List (Cell E)) → slice_get d.lists row ≡ Some cells
      → dense_entry d row column ≡ entry_in cells column
  dense_entry-at row column cells at = ap (option_and_then (λ (cs : List (Cell E)). entry_in cs column)) at

  pub dense_entry-past_row : IsDense d → (row column : ℕ) → d.rows ≤ row → dense_entry d row column ≡ None
  dense_entry-past_row so row column past = ap (option_and_then (λ (cs : List (Cell E)). entry_in cs column))
      (slice_get_past d.lists row (omega (arith, so.rows, past)))

  -- the list of a row
  pub list_at : IsDense d → (row : ℕ) → row < d.rows → (cells : List (Cell E)) × (slice_get d.lists row ≡ Some cells)
  list_at so row lt = some_at d.lists row (omega (arith, so.rows, lt))

  pub dense_entry-past : IsDense d → (row column : ℕ) → d.width ≤ column → dense_entry d row column ≡ None
  dense_entry-past so row column past = elim (cases_lt row d.rows) [
    | inr none ↦ dense_entry-past_row so row column none
    | inl lt ↦ let found = list_at so row lt in
        dense_entry-at row column found.0 found.1 ∙ all_below found.0 column
        (All-at (All (λ (c : Cell E). c.column < d.width)) d.lists row found.0 so.within found.1) past
  ]
    where
      all_below : (cells : List (Cell E)) (column : ℕ) → All (λ c. c.column < d.width) cells → d.width ≤ column
          → entry_in cells column ≡ None
      all_below [] column below past = refl
      all_below (c ∷ cells) column below past =
          let lt = below 0 c (omega arith) in
          cond-false (nat_eq column c.column) (Some c.entry) (entry_in cells column)
          (ne_eqb column c.column (λ e. omega (arith, lt, past, e)))
          ∙ all_below cells column (λ k x small. below (suc k) x (omega arith)) past

  -- what a row has
  pub row_are : IsDense d → (row : ℕ) (cells : List (Cell E)) → slice_get d.lists row ≡ Some cells
      → AreCellsOf (dense_entry d row) cells
  row_are so row cells at = subst (λ (o : Option (List (Cell E))). AreCellsOf (λ column. option_and_then (λ
      (cs : List (Cell E)). entry_in cs column) o) cells) (sym at)
      (cells_are cells (All-at AreRising d.lists row cells so.rising at))

-- the rows after a write
module _ {E : Type 0} (d : Dense E) (row : ℕ) (old new : List (Cell E)) (at : slice_get d.lists row ≡ Some old)
    (lt : row < length d.lists) where
  abbrev after : Dense E
  after = record { rows = d.rows; width = d.width; lists = set d.lists row new }

  pub dense_entry-after : (column : ℕ) → dense_entry after row column ≡ entry_in new column
  dense_entry-after column = dense_entry-at after row column new (slice_get-set_same d.lists row new lt)

  pub dense_entry-other : (r column : ℕ) → r ≢ row → dense_entry after r column ≡ dense_entry d r column
  dense_entry-other r column other = ap (option_and_then (λ (cs : List (Cell E)). entry_in cs column))
      (slice_get-set_other d.lists row r new other)

  pub dense_entry-set : (column : ℕ) (entry : Option E) → ((t : ℕ) → entry_in new t
      ≡ (if nat_eq t column then entry else entry_in old t)) → (r c : ℕ) → dense_entry after r c
      ≡ (if nat_eq r row && nat_eq c column then entry else dense_entry d r c)
  dense_entry-set column entry is r c = elim (cases_Bool (nat_eq r row)) [
    | inl same ↦
        let here = eqb-true r row same in
        ap (λ k. dense_entry after k c) here ∙ dense_entry-after c ∙ is c
        ∙ ap (λ (o : Option E). if nat_eq c column then entry else o)
        (sym (ap (λ k. dense_entry d k c) here ∙ dense_entry-at d row c old at))
        ∙ ap (λ (b : Bool). if b && nat_eq c column then entry else dense_entry d r c) (sym same)
    | inr off ↦ dense_entry-other r c (eqb-false r row off)
        ∙ sym (cond-false (nat_eq r row && nat_eq c column) entry (dense_entry d r c)
        (and_left (nat_eq r row) (nat_eq c column) off))
  ]

  pub is_dense-after : IsDense d → AreRising new → All (λ c. c.column < d.width) new → IsDense after
  is_dense-after so rising within = record {
    rows = length-set d.lists row new ∙ so.rows;
    rising = All-set AreRising d.lists row new rising so.rising;
    within = All-set (All (λ (c : Cell E). c.column < d.width)) d.lists row new within so.within;
  }

-- rows without an entry
pub is_dense-none : {E : Type 0} (rows width : ℕ) (d : Dense E) → d.lists ≡ replicate rows [] → d.rows ≡ rows
    → IsDense d
is_dense-none {E} rows width d is count = record {
  rows = ap length is ∙ length-replicate rows [] ∙ sym count;
  rising = subst (All AreRising) (sym is) (All-replicate AreRising rows [] (λ i j x lt small. absurd (omega
      (arith, small))));
  within = subst (All (All (λ (c : Cell E). c.column < d.width))) (sym is)
      (All-replicate (All (λ (c : Cell E). c.column < d.width)) rows [] (λ k x small. absurd (omega (arith, small))));
}

pub dense_entry-none : {E : Type 0} (rows row column : ℕ) (d : Dense E) → d.lists ≡ replicate rows []
    → dense_entry d row column ≡ None
dense_entry-none {E} rows row column d is = elim (cases_lt row rows) [
  | inl lt ↦ dense_entry-at d row column []
      (ap (λ ls. slice_get ls row) is
      ∙ slice_get-get_or (replicate rows []) row []
      (omega (arith, length-replicate rows (let n : List (Cell E) = [] in n), lt))
      ∙ ap Some (get_or-replicate rows row [] [] lt))
  | inr past ↦ ap (option_and_then (λ (cs : List (Cell E)). entry_in cs column))
      (slice_get_past d.lists row (omega (
        arith,
        ap length is,
        length-replicate rows (let n : List (Cell E) = [] in n),
        past,
      )))
]

-- the row before one that is there is there
pub before_small : {E : Type 0} (width : ℕ) (lists : List (Counted E)) (row : ℕ) (d : Dense E)
    → dense_of width lists ≡ d → row < d.rows → row - 1 < length lists
before_small {E} width lists row d view small =
    let lt = subst (λ (x : Dense E). row < x.rows) (sym view) small in
    omega (arith, lt)

-- the rows that are kept in lists, of which one is read and written
module _ {E : Type 0} (width : ℕ) (lists : List (Counted E)) (row : ℕ) (old : Counted E) (d : Dense E)
    (view : dense_of width lists ≡ d) (so : IsDense (dense_of width lists)) (small : row < d.rows)
    (read : old ≡ slice_index_or lists row old) where
  lt : row < length lists
  lt = subst (λ (x : Dense E). row < x.rows) (sym view) small

  at : slice_get (map (λ (v : Counted E). v.value.items) lists) row ≡ Some old.value.items
  at = slice_get-map (λ (v : Counted E). v.value.items) lists row
      ∙ ap (option_map (λ (v : Counted E). v.value.items)) (slice_get_read lists (length lists) row old refl lt read)

  pub read_are : AreCellsOf (dense_entry d row) old.value.items
  read_are = subst (λ (x : Dense E). AreCellsOf (dense_entry x row) old.value.items) view
      (row_are (dense_of width lists) so row old.value.items at)

  pub read_rising : AreRising old.value.items
  read_rising = read_are.rising

  pub read_within : All (λ c. c.column < width) old.value.items
  read_within = All-at (All (λ (c : Cell E). c.column < width)) (dense_of width lists).lists row old.value.items
      so.within at

  pub entry_read : (t : ℕ) → entry_in old.value.items t ≡ dense_entry d row t
  entry_read t = sym (dense_entry-at (dense_of width lists) row t old.value.items at)
      ∙ ap (λ (x : Dense E). dense_entry x row t) view

  module _ (new : Counted E) where
    abbrev pub written : Dense E
    written = dense_of width (slice_set lists row new)

    many : row < length (dense_of width lists).lists
    many = omega (arith, lt, length-map lists (λ (v : Counted E). v.value.items))

    written_is : written ≡ record {
      rows = length lists;
      width = width;
      lists = slice_set (map (λ (v : Counted E). v.value.items) lists) row new.value.items;
    }
    written_is = ap₂ (λ (n : ℕ) (ls : List (List (Cell E))). let x : Dense E = record {
      rows = n;
      width = width;
      lists = ls;
    } in x) (length-set lists row new) (map-set (λ (v : Counted E). v.value.items) lists row new)

    -- the same cells, with more room
    pub dense_still : new.value.items ≡ old.value.items → written ≡ d
    dense_still is =
        let same = map-set_same (λ (v : Counted E). v.value.items) lists row new old
        (is ∙ ap (λ (v : Counted E). v.value.items) read) in
        ap₂ (λ (n : ℕ) (ls : List (List (Cell E))). let x : Dense E = record {
          rows = n;
          width = width;
          lists = ls;
        } in x) (length-set lists row new) same ∙ view

    pub is_dense-written : AreRising new.value.items → All (λ c. c.column < width) new.value.items → IsDense written
    is_dense-written rising within = subst IsDense (sym written_is)
        (is_dense-after (dense_of width lists) row old.value.items new.value.items at many so rising within)

    pub dense_entry-written : (t : ℕ) → dense_entry written row t ≡ entry_in new.value.items t
    dense_entry-written t = ap (λ (x : Dense E). dense_entry x row t) written_is
        ∙ dense_entry-after (dense_of width lists) row old.value.items new.value.items at many t

    pub dense_entry-unwritten : (r t : ℕ) → r ≢ row → dense_entry written r t ≡ dense_entry d r t
    dense_entry-unwritten r t other = ap (λ (x : Dense E). dense_entry x r t) written_is
        ∙ dense_entry-other (dense_of width lists) row old.value.items new.value.items at many r t other
        ∙ ap (λ (x : Dense E). dense_entry x r t) view

    pub dense_entry-put : (column : ℕ) (entry : Option E) → ((t : ℕ) → entry_in new.value.items t
        ≡ (if nat_eq t column then entry else entry_in old.value.items t)) → (r c : ℕ) → dense_entry written r c
        ≡ (if nat_eq r row && nat_eq c column then entry else dense_entry d r c)
    dense_entry-put column entry is r c = ap (λ (x : Dense E). dense_entry x r c) written_is
        ∙ dense_entry-set (dense_of width lists) row old.value.items new.value.items at many column entry is r c
        ∙ ap (λ (x : Dense E). if nat_eq r row && nat_eq c column then entry else dense_entry x r c) view

-- all lists
pub all_cells : {E : Type 0} (width : ℕ) (lists : List (Counted E)) (d : Dense E) → dense_of width lists ≡ d
    → IsDense (dense_of width lists) → AreAllCellsOf (dense_entry d) d.rows d.width lists
all_cells {E} width lists d view so = record {
  count = ap (λ (x : Dense E). x.rows) view;
  each = λ row cells at. subst (λ (x : Dense E). AreCellsOf (dense_entry x row) cells.value.items) view
      (row_are (dense_of width lists) so row cells.value.items (there row cells at));
  within = λ row cells at. subst (λ (x : Dense E). All (λ (c : Cell E). c.column < x.width) cells.value.items) view
      (All-at (All (λ (c : Cell E). c.column < width)) (dense_of width lists).lists row cells.value.items so.within
      (there row cells at));
}
  where
    there : (row : ℕ) (cells : Counted E) → slice_get lists row ≡ Some cells
        → slice_get (dense_of width lists).lists row ≡ Some cells.value.items
    there row cells at = slice_get-map (λ (v : Counted E). v.value.items) lists row
        ∙ ap (option_map (λ (v : Counted E). v.value.items)) at

-- a list that is there, and one that isn't
module _ {E : Type 0} (width : ℕ) (lists : List (Counted E)) (d : Dense E) (view : dense_of width lists ≡ d)
    (so : IsDense (dense_of width lists)) (row : ℕ) where
  module _ (v : Counted E) (at : slice_get lists row ≡ Some v) where
    there : slice_get (dense_of width lists).lists row ≡ Some v.value.items
    there = slice_get-map (λ (w : Counted E). w.value.items) lists row
        ∙ ap (option_map (λ (w : Counted E). w.value.items)) at

    pub list_rising : AreRising v.value.items
    list_rising = All-at AreRising (dense_of width lists).lists row v.value.items so.rising there

    pub list_entry : (t : ℕ) → entry_in v.value.items t ≡ dense_entry d row t
    list_entry t = sym (dense_entry-at (dense_of width lists) row t v.value.items there)
        ∙ ap (λ (x : Dense E). dense_entry x row t) view

  pub list_none : length lists ≤ row → (t : ℕ) → None ≡ dense_entry d row t
  list_none past t = sym (dense_entry-past_row (dense_of width lists) so row t past)
      ∙ ap (λ (x : Dense E). dense_entry x row t) view
