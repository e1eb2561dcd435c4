-- The weight of all patterns together.
use Rattle.std.specs.Prelude.{ℕ, ◌+◌, List, [], ◌∷◌}
use Rattle.ly_ere.specs.Expression.{Expression}
use Rattle.ly_ere.specs.Weight.{weight_of_both}
use Rattle.ly_ere.specs.declared.pattern.Rule.{Rule}

-- a pattern weighs as much as its head and its tail
abbrev pub total_weight : List Expression → List Rule → ℕ
total_weight names [] = 0
total_weight names (r ∷ rs) = weight_of_both names r.pattern.head r.pattern.tail + total_weight names rs
