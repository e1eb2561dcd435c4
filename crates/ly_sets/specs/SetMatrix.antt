-- The value of a `SetMatrix`.
use Rattle.std.specs.Prelude.{ℕ, ◌+◌, ◌^◌, ◌-◌, min, List}
use Rattle.std.specs.Prelude.{slice_index_or, slice_set, refl}
use Rattle.std.specs.Coded.{Coded, code_by, coded×, coded_ℕ, coded_list}
use Rattle.std.specs.FinSet as set
use Rattle.ly_sets.specs.NumberSet.{NumberSet}

-- one set of numbers below the width for each row, and the number of changes
pub record Matrix : Type 0 where
  pub width : ℕ
  pub sets : List NumberSet
  pub changes : ℕ

abbrev pub matrix_code : Coded Matrix
matrix_code = code_by (ℕ × (List NumberSet × ℕ)) (coded× coded_ℕ (coded× (coded_list (set.code coded_ℕ)) coded_ℕ))
    (λ m. (m.width, (m.sets, m.changes))) (λ p. record { width = p.0; sets = p.1.0; changes = p.1.1 }) (λ _. refl)

-- the set of a row
abbrev pub row : List NumberSet → ℕ → NumberSet
row sets i = slice_index_or sets i set.empty

-- the matrix after one more change, which set row i to s
abbrev pub with_row : Matrix → ℕ → NumberSet → Matrix
with_row m i s = record m { sets = slice_set m.sets i s; changes = min (m.changes + 1) (2 ^ 64 - 1) }
