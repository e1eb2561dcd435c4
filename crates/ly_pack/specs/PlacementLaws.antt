-- Laws of placement and of defaults: a table has one placed comb, and a state has one default.
use Rattle.std.specs.Prelude.{◌≡◌, ℕ, Option}
use Rattle.ly_pack.specs.Defaults.{IsDefaultOf}
use Rattle.ly_pack.specs.Machine.{Machine}
use Rattle.ly_pack.specs.Placement.{IsPlaced, Table}
use Rattle.ly_pack.specs.Rows.{Comb}

-- two placed combs of the same table are equal
abbrev pub PlacementIsOne : Type 0 → Type 0
PlacementIsOne E = (T : Table E) (c d : Comb E) → IsPlaced T c → IsPlaced T d → c ≡ d

-- a state has at most one default
abbrev pub DefaultIsOne : Type 0
DefaultIsOne = (m : Machine) (state : ℕ) (d e : Option ℕ) → IsDefaultOf m state d → IsDefaultOf m state e → d ≡ e
