-- A list in which an element is another one, and cells that stand row after row.
use Rattle.std.proofs.Common.{◌≡◌, ◌≢◌, ◌∙◌, ◌<◌, ◌+◌, ◌*◌, ◌&&◌, ℕ, List, length, Option, Some}
use Rattle.std.proofs.Common.{sym, ap, ap₂, arith, inl, inr, slice_get, set, nat_eq}
use Rattle.std.proofs.Common.{length-set, get_or-set_same, get_or-set_other}
use Rattle.std.specs.Prelude.{option_and_then, if◌then◌else◌}
use Rattle.std.proofs.lemmas.Bool.{cases_eq, cases_lt, eq-eqb, ne_eqb, cond-true, cond-false, and_from}
use Rattle.std.proofs.lemmas.Bool.{and_left, and_right}
use Rattle.std.proofs.lemmas.Nat.{same_from_place}
use Rattle.std.proofs.lemmas.Option.{slice_get-get_or, slice_get_past}

pub slice_get-set_same : {X : Type 0} (xs : List X) (i : ℕ) (x : X) → i < length xs → slice_get (set xs i x) i ≡ Some x
slice_get-set_same xs i x lt = slice_get-get_or (set xs i x) i x (omega (arith, length-set xs i x))
    ∙ ap Some (get_or-set_same xs i x x lt)

pub slice_get-set_other : {X : Type 0} (xs : List X) (i j : ℕ) (x : X) → j ≢ i
    → slice_get (set xs i x) j ≡ slice_get xs j
slice_get-set_other xs i j x other = elim (cases_lt j (length xs)) [
  | inl lt ↦ slice_get-get_or (set xs i x) j x (omega (arith, length-set xs i x))
      ∙ ap Some (get_or-set_other xs i j x x other) ∙ sym (slice_get-get_or xs j x lt)
  | inr past ↦ slice_get_past (set xs i x) j (omega (arith, length-set xs i x)) ∙ sym (slice_get_past xs j past)
]

-- the cells of rows after a write to one of them
module _ {E : Type 0} (cells : List (Option E)) (width row column : ℕ) (entry : Option E) (lt : column < width)
    (there : row * width + column < length cells) where
  abbrev cell_of : List (Option E) → ℕ → ℕ → Option E
  cell_of cells r c = option_and_then (λ cell. cell) (slice_get cells (r * width + c))

  abbrev after : List (Option E)
  after = set cells (row * width + column) entry

  at_cell : (r c : ℕ) → r ≡ row → c ≡ column → cell_of after r c ≡ entry
  at_cell r c same_row same = ap₂ (cell_of after) same_row same
      ∙ ap (option_and_then (λ cell. cell)) (slice_get-set_same cells (row * width + column) entry there)

  at_other : (r c : ℕ) → c < width → ((r ≡ row) × (c ≡ column) → ⊥) → cell_of after r c ≡ cell_of cells r c
  at_other r c within other = ap (option_and_then (λ cell. cell)) (slice_get-set_other cells
      (row * width + column) (r * width + c) entry (λ e. other (same_from_place r c row column width within lt e)))

  pub cell-set : (r c : ℕ) → c < width
      → option_and_then (λ cell. cell) (slice_get (set cells (row * width + column) entry) (r * width + c))
      ≡ (if nat_eq r row && nat_eq c column then entry
      else option_and_then (λ cell. cell) (slice_get cells (r * width + c)))
  cell-set r c within = elim (cases_eq r row) [
    | inr other ↦ at_other r c within (λ e. other e.0) ∙ sym (cond-false (nat_eq r row && nat_eq c column) entry
        (cell_of cells r c) (and_left (nat_eq r row) (nat_eq c column) (ne_eqb r row other)))
    | inl same_row ↦ elim (cases_eq c column) [
      | inr other ↦ at_other r c within (λ e. other e.1) ∙ sym (cond-false (nat_eq r row && nat_eq c column) entry
          (cell_of cells r c) (and_right (nat_eq r row) (nat_eq c column) (ne_eqb c column other)))
      | inl same ↦ at_cell r c same_row same
          ∙ sym (cond-true (nat_eq r row && nat_eq c column) entry (cell_of cells r c)
          (and_from (nat_eq r row) (nat_eq c column) (eq-eqb r row same_row) (eq-eqb c column same)))
    ]
  ]
