-- Where the patterns of rules begin, condition by condition.
use Rattle.std.specs.Prelude.{◌≡◌, ◌↔◌, ◌⊎◌, ℕ, ◌+◌, ◌*◌, ◌<◌, List, [], ◌∷◌, ◌++◌, length, slice_set}
use Rattle.std.specs.Prelude.{slice_index_or, All, Bool, if◌then◌else◌, IsTrue, Contains, Option, Some, None}
use Rattle.ly_ere.specs.declared.pattern.Rule.{Rule}
use Rattle.ly_ere.specs.Winner.{IsActive}
use Rattle.ly_position.specs.Private.Program.{ProgramStep}
use Rattle.ly_position.specs.Private.Link.{IsReachList}

-- the number of the list of a condition, where a line begins or elsewhere
abbrev pub key : ℕ → Bool → ℕ
key condition line = 2 * condition + (if line then 1 else 0)

-- the list of a condition, where a line begins or elsewhere
abbrev pub root_list : List (List ℕ) → ℕ → Bool → List ℕ
root_list lists condition line = slice_index_or lists (key condition line) []

-- the list of a number gains an entry at its end
abbrev pub PutsIn : List (List ℕ) → List (List ℕ) → ℕ → ℕ → Type 0
PutsIn old new k entry = new ≡ slice_set old k (slice_index_or old k [] ++ entry ∷ [])

-- the lists gain an entry in a condition
abbrev pub AddsIn : List (List ℕ) → List (List ℕ) → ℕ → Bool → ℕ → Type 0
AddsIn old new condition line_start entry =
    (c : ℕ) (line : Bool) (e : ℕ) → Contains (root_list new c line) e
    ↔ (Contains (root_list old c line) e ⊎ ((c ≡ condition) × (IsTrue line_start → IsTrue line) × (e ≡ entry)))

-- the lists gain an entry in each of some conditions
abbrev pub AddsInEach : List (List ℕ) → List (List ℕ) → ℕ → List ℕ → Bool → ℕ → Type 0
AddsInEach old new conditions active line_start entry =
    (c : ℕ) (line : Bool) (e : ℕ) → c < conditions → Contains (root_list new c line) e
    ↔ (Contains (root_list old c line) e ⊎ (Contains active c × (IsTrue line_start → IsTrue line) × (e ≡ entry)))

-- no member above the bound comes in
abbrev pub StaysWithin : List (List ℕ) → List (List ℕ) → ℕ → Type 0
StaysWithin old new entry = (n : ℕ) → entry < n → All (All (λ p. p < n)) old → All (All (λ p. p < n)) new

-- one of the first n rules is active in the condition and may begin there, at this entry
abbrev pub BeginsBefore : List Rule → List (Option ℕ) → ℕ → ℕ → Bool → ℕ → Type 0
BeginsBefore rules entries n c line e =
    (i : ℕ) × (r : Rule) × (i < n) × IsActive rules c line i r × (slice_index_or entries i None ≡ Some e)

-- one of the rules of these numbers is active in the condition and may begin there, at this entry
abbrev pub BeginsIn : List Rule → List (Option ℕ) → List ℕ → ℕ → Bool → ℕ → Type 0
BeginsIn rules entries numbers c line e = (i : ℕ) × (r : Rule) × Contains numbers i × IsActive rules c line i r
    × (slice_index_or entries i None ≡ Some e)

-- the numbers below n, in any order
pub record AreBelow (n : ℕ) (numbers : List ℕ) : Type 0 where
  pub within : All (λ i. i < n) numbers
  pub all : (i : ℕ) → i < n → Contains numbers i

-- for each condition the entries of the rules of these numbers that may begin there
pub record AreRoots (rules : List Rule) (entries : List (Option ℕ)) (numbers : List ℕ) (conditions bound : ℕ)
    (lists : List (List ℕ)) : Type 0 where
  pub count : length lists ≡ 2 * conditions
  pub within : All (All (λ p. p < bound)) lists
  pub each : (c : ℕ) (line : Bool) (e : ℕ) → c < conditions → Contains (root_list lists c line) e
      ↔ BeginsIn rules entries numbers c line e

-- for each condition the positions at which its rules may begin
pub record StartsAt (g : List ProgramStep) (rules : List Rule) (entries : List (Option ℕ)) (conditions : ℕ)
    (starts : List (List ℕ)) : Type 0 where
  pub count : length starts ≡ 2 * conditions
  pub each : (k : ℕ) → k < length starts → (roots : List ℕ) × IsReachList g roots (slice_index_or starts k [])
  pub begin : (c : ℕ) (line : Bool) → c < conditions → (roots : List ℕ) × IsReachList g roots (root_list starts c line)
      × ((e : ℕ) → Contains roots e ↔ BeginsBefore rules entries (length rules) c line e)
