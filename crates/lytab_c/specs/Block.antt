-- What a caller's block contains after a call has written to it.
use Rattle.std.specs.Prelude.{◌≡◌, ◌≤◌, List, ◌++◌, drop, length, take}

-- a block with its start replaced by these items
abbrev pub in_front_of : {T : Type 0} → List T → List T → List T
in_front_of items old = items ++ drop (length items) old

-- all items are written
abbrev pub IsPut : {T : Type 0} → List T → List T → List T → Type 0
IsPut items old new = (length items ≤ length old) × (new ≡ in_front_of items old)

-- as many items are written as the block holds
abbrev pub IsFilled : {T : Type 0} → List T → List T → List T → Type 0
IsFilled items old new = new ≡ take (length old) items ++ drop (length items) old
