-- The plain expressions of rules.
use Rattle.std.specs.Prelude.{◌≡◌, ℕ, List, length, slice_get, All, Option, Some}
use Rattle.ly_ere.specs.Expression.{Expression}
use Rattle.ly_ere.specs.declared.pattern.Rule.{Rule}
use Rattle.ly_position.specs.Written.{pattern_written}
use Rattle.ly_position.specs.Private.Plain.{IsPlainPart, listed}
use Rattle.ly_position.specs.Private.Slim.{slim}

-- for each rule the part that is its pattern written out, without idle operators
pub record IsPlan (names : List Expression) (rules : List Rule) (es : List Expression)
    (parts : List (Option ℕ)) : Type 0 where
  pub count : length parts ≡ length rules
  pub within : All (IsPlainPart (length es)) parts
  pub each : (i : ℕ) (r : Rule) → slice_get rules i ≡ Some r
      → listed es parts i ≡ slim (pattern_written names r.pattern)
