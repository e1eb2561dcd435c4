-- Definitions, ordered so that each uses earlier ones only.
use Rattle.std.specs.Prelude.{◌≡◌, ◌↔◌, ℕ, ◌<◌, List, map, position, slice_get, Option, Some}
use Rattle.std.specs.Str.{bytes_eq}
use Rattle.ly_ere.specs.Expression.{Expression, set, empty, concat, either, star, plus, optional, repeat, name, Matches}

-- a definition: a name and its expression
abbrev pub Definition : Type 0
Definition = List ℕ × Expression

-- the expressions of definitions
abbrev pub defined : List Definition → List Expression
defined names = map (λ d. d.1) names

-- the number of the definition of a name
abbrev pub number_of : List Definition → List ℕ → Option ℕ
number_of names n = position (λ d. bytes_eq n d.0) names

-- each name in the expression is below n
abbrev pub UsesBelow : ℕ → Expression → Type 0
UsesBelow n (set bytes) = Unit {0}
UsesBelow n empty = Unit {0}
UsesBelow n (concat r s) = UsesBelow n r × UsesBelow n s
UsesBelow n (either r s) = UsesBelow n r × UsesBelow n s
UsesBelow n (star r) = UsesBelow n r
UsesBelow n (plus r) = UsesBelow n r
UsesBelow n (optional r) = UsesBelow n r
UsesBelow n (repeat k m r) = UsesBelow n r
UsesBelow n (name x) = x < n

-- each definition uses earlier ones only
abbrev pub AreOrdered : List Expression → Type 0
AreOrdered names = (n : ℕ) (d : Expression) → slice_get names n ≡ Some d → UsesBelow n d

-- a name matches what its definition matches
abbrev pub NameIsDefinition : Type 0
NameIsDefinition = (names : List Expression) (x : ℕ) (d : Expression) (w : List ℕ) → AreOrdered names
    → slice_get names x ≡ Some d → Matches names (name x) w ↔ Matches names d w
