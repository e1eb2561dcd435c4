-- Positions with their follow lists and start lists, and runs over them (McNaughton and Yamada 1960).
use Rattle.std.specs.Prelude.{◌≡◌, ◌↔◌, ◌⊎◌, ℕ, ◌+◌, ◌-◌, ◌*◌, List, [], ◌∷◌, length, slice_get, slice_index_or}
use Rattle.std.specs.Prelude.{Bool, if◌then◌else◌}
use Rattle.std.specs.Prelude.{Contains, Some}
use Rattle.ly_position.specs.declared.set.PositionSet.{PositionSet}

-- A position: it reads one of some bytes, and some positions may come next; or it is the end mark of a rule's pattern.
pub data Position : Type 0 where
  reading : List ℕ → List ℕ → Position
  ending : ℕ → Position

-- The positions, the number of forks that their follow lists share in memory, and two start lists for each condition:
-- within a line, and at the start of a line.
pub record Nfa : Type 0 where
  pub positions : List Position
  pub forks : ℕ
  pub starts : List (List ℕ)

-- the bytes that a position reads
abbrev pub bytes_of : Position → List ℕ
bytes_of (reading bytes follow) = bytes
bytes_of (ending i) = []

-- the positions that may come after it
abbrev pub follow_of : Position → List ℕ
follow_of (reading bytes follow) = follow
follow_of (ending i) = []

-- position p; past the last one, a position that reads nothing
abbrev pub position_of : Nfa → ℕ → Position
position_of nfa p = slice_index_or nfa.positions p (reading [] [])

-- position p may read b
abbrev pub ReadsByte : Nfa → ℕ → ℕ → Type 0
ReadsByte nfa p b = Contains (bytes_of (position_of nfa p)) b

-- position q may come after p
abbrev pub Follows : Nfa → ℕ → ℕ → Type 0
Follows nfa p q = Contains (follow_of (position_of nfa p)) q

-- exactly the position before p may come after p
abbrev pub BeginsChain : Nfa → ℕ → Type 0
BeginsChain nfa p = (q : ℕ) → Follows nfa p q ↔ (q + 1 ≡ p)

-- exactly the position before p, and what may come after that one, may come after p
abbrev pub GoesOnChain : Nfa → ℕ → Type 0
GoesOnChain nfa p = (q : ℕ) → Follows nfa p q ↔ ((q + 1 ≡ p) ⊎ Follows nfa (p - 1) q)

-- position q may come after one of these positions that reads b
abbrev pub Stepped : Nfa → List ℕ → ℕ → ℕ → Type 0
Stepped nfa ps b q = (p : ℕ) × Contains ps p × ReadsByte nfa p b × Follows nfa p q

-- the set has capacity for the positions of the automaton and for its forks
pub record IsRoomFor (nfa : Nfa) (set : PositionSet) : Type 0 where
  pub positions : set.positions.below ≡ length nfa.positions
  pub forks : set.forks.below ≡ nfa.forks

-- position p is the end mark of rule i
abbrev pub IsEnd : Nfa → ℕ → ℕ → Type 0
IsEnd nfa p i = slice_get nfa.positions p ≡ Some (ending i)

-- a run from position p reads w and reaches the end mark of rule i
abbrev pub RunsTo : Nfa → ℕ → ℕ → List ℕ → Type 0
RunsTo nfa i p [] = IsEnd nfa p i
RunsTo nfa i p (b ∷ w) = (q : ℕ) × ReadsByte nfa p b × Follows nfa p q × RunsTo nfa i q w

-- a run from position p reads w and reaches position q
abbrev pub ComesTo : Nfa → ℕ → List ℕ → ℕ → Type 0
ComesTo nfa p [] q = p ≡ q
ComesTo nfa p (b ∷ w) q = (n : ℕ) × ReadsByte nfa p b × Follows nfa p n × ComesTo nfa n w q

-- the positions that may come first in a condition, at the start of a line or elsewhere
abbrev pub starts_of : Nfa → ℕ → Bool → List ℕ
starts_of nfa condition line = slice_index_or nfa.starts (2 * condition + (if line then 1 else 0)) []
