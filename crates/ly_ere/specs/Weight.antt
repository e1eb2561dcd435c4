-- The weight of an expression: the number of its byte sets and empty strings, with repetitions and definitions
-- expanded.
use Rattle.std.specs.Prelude.{◌≡◌, ℕ, zero, suc, ◌+◌, ◌*◌, max, List, length, slice_index_or, Option, Some, None}
use Rattle.std.specs.Prelude.{nat_eq}
use Rattle.std.specs.Prelude.{if◌then◌else◌}
use Rattle.ly_ere.specs.Expression.{Expression, set, empty, concat, either, star, plus, optional, repeat, name}

-- the weight of a repetition, given that of its operand; one of 0 times weighs 1
abbrev pub repeated_weight : ℕ → Option ℕ → ℕ → ℕ
repeated_weight m None w = max m 1 * w
repeated_weight m (Some zero) w = 1
repeated_weight m (Some (suc n)) w = suc n * w

-- the weight of an expression, given those of the definitions
abbrev pub weight_under : (ℕ → ℕ) → Expression → ℕ
weight_under named (set bytes) = 1
weight_under named empty = 1
weight_under named (concat r s) = weight_under named r + weight_under named s
weight_under named (either r s) = weight_under named r + weight_under named s
weight_under named (star r) = weight_under named r
weight_under named (plus r) = weight_under named r
weight_under named (optional r) = weight_under named r
weight_under named (repeat m n r) = repeated_weight m n (weight_under named r)
weight_under named (name x) = named x

-- the weight of definition x among the first n
abbrev pub named_weight : List Expression → ℕ → ℕ → ℕ
named_weight names zero x = 0
named_weight names (suc n) x = if nat_eq x n then weight_under (named_weight names n) (slice_index_or names n empty)
    else named_weight names n x

-- the weight of an expression under definitions
abbrev pub weight_of : List Expression → Expression → ℕ
weight_of names e = weight_under (named_weight names (length names)) e

-- the weight of a head and its tail
abbrev pub weight_of_both : List Expression → Expression → Option Expression → ℕ
weight_of_both names head None = weight_of names head
weight_of_both names head (Some tail) = weight_of names head + weight_of names tail

-- the weight of the definition with this number; 0 if there is none
abbrev pub weight_at : List ℕ → ℕ → ℕ
weight_at weights x = slice_index_or weights x 0

-- These are the weights of the definitions, in order of their numbers.
pub record AreWeights (names : List Expression) (weights : List ℕ) : Type 0 where
  pub counted : length weights ≡ length names
  pub weighed : (x : ℕ) → weight_at weights x ≡ named_weight names (length names) x
