-- An offset of a text, and the location after further bytes.
use Rattle.std.specs.Prelude.{ℕ, ◌+◌, List, [], ◌∷◌, if◌then◌else◌}
use Rattle.ly_base.specs.Location.{is_newline}

-- an offset of a text
pub record Spot : Type 0 where
  pub text : List ℕ
  pub at : ℕ

-- the column after bytes that follow this column
abbrev pub column_on : ℕ → List ℕ → ℕ
column_on column [] = column
column_on column (b ∷ bs) = column_on (if is_newline b then 1 else column + 1) bs

-- an offset with its line and its column
pub record Located : Type 0 where
  pub offset : ℕ
  pub line : ℕ
  pub column : ℕ
