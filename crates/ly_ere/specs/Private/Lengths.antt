-- Lengths, as they are reckoned.
use Rattle.std.specs.Prelude.{◌≡◌, ℕ, ◌*◌, ◌<◌, ◌≤◌, min, List, length, Option, Some, None}
use Rattle.ly_ere.specs.Arena.{part_of}
use Rattle.ly_ere.specs.Expression.{Expression, Matches}
use Rattle.ly_ere.specs.Lengths.{AreLengths, IsSound, far, lengths_at}
use Rattle.ly_ere.specs.Weight.{weight_of}
use Rattle.ly_ere.specs.declared.length.Lengths.{Lengths}

-- counted up to `far`
abbrev pub IsNear : Lengths → Type 0
IsNear l = (l.least ≤ far) × (l.most ≤ far)

-- each of them is
abbrev pub AreNear : List Lengths → Type 0
AreNear ls = (k : ℕ) → IsNear (lengths_at ls k)

-- these are the lengths of the expressions, as far as they are sound
abbrev pub Measures : List Expression → List Expression → List Lengths → Type 0
Measures names done ls = (k : ℕ) → k < length done → IsSound (length names) (part_of done k)
    → AreLengths (weight_of names (part_of done k)) (Matches names (part_of done k)) (lengths_at ls k)

-- The lengths of at least m and at most n strings, one after another, by those of one.
pub record IsRepeated (m : ℕ) (n : Option ℕ) (l r : Lengths) : Type 0 where
  pub near : IsNear r
  pub least : r.least ≡ min (m * l.least) far
  pub none : l.most ≡ 0 → r.most ≡ 0
  pub bounded : (k : ℕ) → n ≡ Some k → r.most ≡ min (k * l.most) far
  pub unbounded : n ≡ None → 0 < l.most → r.most ≡ far
