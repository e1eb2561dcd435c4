-- Lists under heads that lie one after another in one list, by where each ends.
use Rattle.std.specs.Prelude.{◌≡◌, ℕ, zero, suc, ◌-◌, ◌≤◌, List, [], ◌∷◌, take, drop}
use Rattle.ly_tree.specs.declared.forest.TermRef.{TermRef}
use Rattle.ly_tree.specs.declared.forest.TermRef.TheVariants.{Nothing}
use Rattle.ly_tree.specs.declared.headed.Heading.{Heading}

module _ {H T : Type 0} where
  -- the lists of these headings, the first of which starts here
  abbrev pub headed_from : ℕ → List (Heading H) → List T → List (H × List T)
  headed_from start [] members = []
  headed_from start (h ∷ hs) members = (h.head, take (h.end - start) members)
      ∷ headed_from h.end hs (drop (h.end - start) members)

-- the ends rise, and the last is that of the members
abbrev pub EndsFit : {H : Type 0} → ℕ → List (Heading H) → ℕ → Type 0
EndsFit start [] n = start ≡ n
EndsFit start (h ∷ hs) n = (start ≤ h.end) × EndsFit h.end hs n

-- where the list of a number begins: where the one before it ends
abbrev pub start_after : {H : Type 0} → ℕ → List (Heading H) → ℕ → ℕ
start_after start hs zero = start
start_after start [] (suc k) = start
start_after start (h ∷ hs) (suc k) = start_after h.end hs k

-- what stands at a place, counted from 1; nothing where there is none
abbrev pub ref_at : List TermRef → ℕ → TermRef
ref_at [] i = Nothing
ref_at (r ∷ rs) zero = Nothing
ref_at (r ∷ rs) (suc zero) = r
ref_at (r ∷ rs) (suc (suc i)) = ref_at rs (suc i)
