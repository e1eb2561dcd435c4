-- The names that an expression uses, by their numbers.
use Rattle.std.specs.Prelude.{ℕ, ◌+◌, List, [], ◌∷◌, ◌++◌, slice_index_or}
use Rattle.ly_ere.specs.Arena.{part_of}
use Rattle.ly_ere.specs.Expression.{Expression, set, empty, concat, either, star, plus, optional, repeat, name}

-- from left to right, as often as they stand in it
abbrev pub uses_of : Expression → List ℕ
uses_of (set bytes) = []
uses_of empty = []
uses_of (concat r s) = uses_of r ++ uses_of s
uses_of (either r s) = uses_of r ++ uses_of s
uses_of (star r) = uses_of r
uses_of (plus r) = uses_of r
uses_of (optional r) = uses_of r
uses_of (repeat m n r) = uses_of r
uses_of (name x) = x ∷ []

-- the expression with name x as name f x
abbrev pub renumbered : (ℕ → ℕ) → Expression → Expression
renumbered f (set bytes) = set bytes
renumbered f empty = empty
renumbered f (concat r s) = concat (renumbered f r) (renumbered f s)
renumbered f (either r s) = either (renumbered f r) (renumbered f s)
renumbered f (star r) = star (renumbered f r)
renumbered f (plus r) = plus (renumbered f r)
renumbered f (optional r) = optional (renumbered f r)
renumbered f (repeat m n r) = repeat m n (renumbered f r)
renumbered f (name x) = name (f x)

-- the number that stands for another, itself where none does
abbrev pub number_for : List ℕ → ℕ → ℕ
number_for numbers x = slice_index_or numbers x x

-- the uses of expressions by their numbers, the last of them first
abbrev pub uses_of_all : List Expression → List ℕ → List ℕ
uses_of_all done [] = []
uses_of_all done (n ∷ ns) = uses_of_all done ns ++ uses_of (part_of done n)

-- how many operators an expression has
abbrev pub size_of : Expression → ℕ
size_of (set bytes) = 1
size_of empty = 1
size_of (concat r s) = 1 + (size_of r + size_of s)
size_of (either r s) = 1 + (size_of r + size_of s)
size_of (star r) = 1 + size_of r
size_of (plus r) = 1 + size_of r
size_of (optional r) = 1 + size_of r
size_of (repeat m n r) = 1 + size_of r
size_of (name x) = 1

-- how many expressions by their numbers have
abbrev pub size_of_all : List Expression → List ℕ → ℕ
size_of_all done [] = 0
size_of_all done (n ∷ ns) = size_of (part_of done n) + size_of_all done ns
