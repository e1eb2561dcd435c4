-- Lists stored one after another in one list, given the end of each.
use Rattle.std.specs.Prelude.{◌≡◌, ℕ, zero, suc, ◌-◌, ◌≤◌, List, [], ◌∷◌, take, drop, slice_index}

-- the lists with these ends; the first starts here
abbrev pub lists_from : ℕ → List ℕ → List ℕ → List (List ℕ)
lists_from start [] members = []
lists_from start (end ∷ ends) members = take (end - start) members ∷ lists_from end ends (drop (end - start) members)

-- the ends ascend, and the last is that of the members
abbrev pub EndsFit : ℕ → List ℕ → ℕ → Type 0
EndsFit start [] n = start ≡ n
EndsFit start (end ∷ ends) n = (start ≤ end) × EndsFit end ends n

-- the start of a list, which is the end of the one before it
abbrev pub start_after : ℕ → List ℕ → ℕ → ℕ
start_after start ends zero = start
start_after start ends (suc k) = slice_index ends k
