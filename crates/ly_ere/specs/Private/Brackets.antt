-- What a reader of bracket expressions finds.
use Rattle.std.specs.Prelude.{◌≡◌, ℕ, List, ◌∷◌, ◌++◌, Bool, true, false, not, ◌||◌, ◌&&◌, nat_eq, map, Option, Some}
use Rattle.std.specs.Prelude.{None, if◌then◌else◌}
use Rattle.std.specs.Borrow.{Bor}
use Rattle.ly_base.specs.ByteSet.{has}
use Rattle.ly_base.specs.declared.byte_set.ByteSet.{ByteSet}
use Rattle.ly_ere.specs.Elements.{Items, in_ranges, is_among}

-- the set has the bytes of the ranges besides those that it had
abbrev pub IsAdded : ByteSet → ByteSet → List (ℕ × ℕ) → Type 0
IsAdded old new rs = (b : ℕ) → has new b ≡ (in_ranges rs b || has old b)

-- the text begins with items up to their `]`, and the test is that of their ranges
abbrev pub AreItems : List ℕ → (ℕ → Bool) → List ℕ → Type 0
AreItems t test rest = (rs : List (ℕ × ℕ)) × Items true t rs rest × ((b : ℕ) → test b ≡ in_ranges rs b)

-- the byte that `[. .]` or `[= =]` with this mark names at the front
abbrev pub names : List ℕ → ℕ → Option ℕ
names (a ∷ m ∷ b ∷ n ∷ e ∷ rest) mark = if nat_eq n mark && nat_eq e 93 && not (nat_eq b 10) then Some b else None
names _ mark = None

-- a table of names and ranges as a list of classes
abbrev pub as_classes : List (Bor (List ℕ) × Bor (List (ℕ × ℕ))) → List (List ℕ × List (ℕ × ℕ))
as_classes table = map (λ row. (row.0.now, row.1.now)) table

-- A name stands at the front, and then its mark and `]`; no byte before these is the mark or a newline.
pub record IsNamed (mark : ℕ) (t name rest : List ℕ) : Type 0 where
  pub is : t ≡ name ++ mark ∷ 93 ∷ rest
  pub no_mark : is_among name mark ≡ false
  pub no_line : is_among (mark ∷ name) 10 ≡ false
