-- Lists that are kept in pieces.
use Rattle.std.specs.Prelude.{◌≡◌, ◌++◌, List, All, flat_map, length}
use Rattle.std.specs.Global.{Vec}

-- each piece has so many elements
abbrev pub AreFull : {T : Type 0} → List (Vec T) → Type 0
AreFull pieces = All (λ p. length p.items ≡ 4096) pieces

-- the elements of full pieces and of one behind them
abbrev pub elements_of : {T : Type 0} → List (Vec T) → List T → List T
elements_of full last = flat_map (λ p. p.items) full ++ last
