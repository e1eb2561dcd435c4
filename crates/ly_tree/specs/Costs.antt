-- The cost of a term: a fixed cost for each term that it consists of, including itself, and one for each byte of its
-- leaves. This covers several sums over terms: the number of terms, the number of bytes, the maximum length of a
-- printed text.
use Rattle.std.specs.Prelude.{ℕ, ◌≤◌, ◌+◌, ◌*◌, length, map, sum}
use Rattle.ly_tree.specs.Forest.{Grown, Lists}
use Rattle.ly_tree.specs.Term.{Term, Terms, nothing, leaf, built, none, more}

abbrev mutual
  pub cost : ℕ → ℕ → Term → ℕ
  cost each byte nothing = each
  cost each byte (leaf t bytes) = each + byte * length bytes
  cost each byte (built p ts) = each + costs each byte ts

  pub costs : ℕ → ℕ → Terms → ℕ
  costs each byte none = 0
  costs each byte (more t ts) = cost each byte t + costs each byte ts

-- the number of bytes of a forest's leaves
abbrev pub bytes_in : Lists → ℕ
bytes_in l = length l.texts + sum (map (λ t. cost 0 1 t) l.long_leaves)

-- the budget of a forest: the cost of a term for each of its children, and of each byte of its leaves
abbrev pub budget : ℕ → ℕ → Grown → ℕ
budget each byte f = each * length f.children + byte * bytes_in f.lists

-- A forest has the budget for a term that is no child itself: none of its parts is used twice.
abbrev pub IsBoundedBySize : Grown → Term → Type 0
IsBoundedBySize f t = (each byte : ℕ) → cost each byte t ≤ each + budget each byte f
