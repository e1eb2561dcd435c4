-- Walks over dense rows.
use Rattle.std.specs.Prelude.{◌≡◌, ◌-◌, ◌++◌, ◌∷◌, [], ℕ, List, Bool, Option, Some, None, if◌then◌else◌, nat_eq}
use Rattle.std.specs.Prelude.{slice_get, slice_index, refl, option_map, option_and_then, unwrap_or}
use Rattle.std.proofs.Common.{◌∙◌, ap, rules}
use Rattle.ly_base.specs.declared.cut.Cut.{Cut}
use Rattle.ly_base.specs.declared.cut.Cut.TheVariants.{Whole}
use Rattle.ly_tests.specs.declared.row_walk.Row.{Row}

-- the state that an entry leads to
abbrev pub led : ℕ → Option ℕ
led entry = if nat_eq entry 0 then None else Some (entry - 1)

-- the state after a byte
abbrev pub next_state : List Row → ℕ → ℕ → Option ℕ
next_state rows state byte = option_and_then (λ row. led (slice_index row.next byte)) (slice_get rows state)

-- the state after bytes, from a state or from none
abbrev pub run : List Row → Option ℕ → List ℕ → Option ℕ
run rows None text = None
run rows (Some state) [] = Some state
run rows (Some state) (byte ∷ text) = run rows (next_state rows state byte) text

-- the rule that ends at a state
abbrev pub rule_in : List Row → ℕ → Option ℕ
rule_in rows state = option_map (λ r. r.0) (option_and_then (λ row. row.rule) (slice_get rows state))

-- the result of the rows for bytes, from a state
abbrev pub rows_ahead : List Row → ℕ → List ℕ → Option (Option ℕ)
rows_ahead rows state text = option_map (rule_in rows) (run rows (Some state) text)

-- the entry of a start, or 0
abbrev pub start_entry : List (List ℕ) → ℕ → Bool → ℕ
start_entry starts condition line
    = unwrap_or (option_map (λ pair. slice_index pair (if line then 1 else 0)) (slice_get starts condition)) 0

-- where a condition starts
abbrev pub first_state : List (List ℕ) → ℕ → Bool → Option ℕ
first_state starts condition line = led (start_entry starts condition line)

-- the result of the rows for bytes, from the start of a condition
abbrev pub rows_walk : List Row → List (List ℕ) → ℕ → Bool → List ℕ → Option (Option ℕ)
rows_walk rows starts condition line text
    = option_map (rule_in rows) (run rows (first_state starts condition line) text)

-- the cut of a rule
abbrev pub rows_cut : List Cut → ℕ → Cut
rows_cut cuts rule = unwrap_or (slice_get cuts rule) Whole

run-append : (rows : List Row) (o : Option ℕ) (t u : List ℕ) → run rows o (t ++ u) ≡ run rows (run rows o t) u
run-append rows None [] u = refl
run-append rows None (b ∷ t) u = refl
run-append rows (Some s) [] u = refl
run-append rows (Some s) (b ∷ t) u = run-append rows (next_state rows s b) t u

no_map : {A B : Type 0} (f : A → B) (o : Option A) → option_map f o ≡ None → o ≡ None
no_map f None h = refl
no_map f (Some a) h = search rules

-- a walk that has ended stays so
pub rows_ends : (rows : List Row) (starts : List (List ℕ)) (c : ℕ) (l : Bool) (t u : List ℕ)
    → rows_walk rows starts c l t ≡ None → rows_walk rows starts c l (t ++ u) ≡ None
rows_ends rows starts c l t u h =
    ap (option_map (rule_in rows)) (run-append rows (first_state starts c l) t u
    ∙ ap (λ o. run rows o u) (no_map (rule_in rows) _ h))
