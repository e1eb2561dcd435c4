-- The value of a `TermSet`.
use Rattle.std.specs.Prelude.{ℕ, refl}
use Rattle.std.specs.Coded.{Coded, code_by, coded×, coded_ℕ}
use Rattle.std.specs.FinSet as set
use Rattle.ly_sets.specs.NumberSet.{NumberSet}

-- the numbers below the width that are members
pub record Terms : Type 0 where
  pub width : ℕ
  pub members : NumberSet

abbrev pub terms_code : Coded Terms
terms_code = code_by (ℕ × NumberSet) (coded× coded_ℕ (set.code coded_ℕ)) (λ t. (t.width, t.members))
    (λ p. record { width = p.0; members = p.1 }) (λ _. refl)
