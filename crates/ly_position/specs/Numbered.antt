-- The positions of a plain expression: its sets, numbered from the left, then its end mark (McNaughton and Yamada 1960,
-- Glushkov 1961).
use Rattle.std.specs.Prelude.{◌≡◌, ◌≢◌, ℕ, ◌+◌, List, [], ◌∷◌, ◌++◌, slice_index_or, Contains}
use Rattle.std.specs.List.{AllZip}
use Rattle.ly_position.specs.Written.{Plain, one_of, empty_string, in_turn, or, any_times, some_times, maybe, Member}

-- the sets, from left to right
abbrev pub sets : Plain → List (List ℕ)
sets (one_of bytes) = bytes ∷ []
sets empty_string = []
sets (in_turn r s) = sets r ++ sets s
sets (or r s) = sets r ++ sets s
sets (any_times r) = sets r
sets (some_times r) = sets r
sets (maybe r) = sets r

-- the number of sets
abbrev pub set_count : Plain → ℕ
set_count (one_of bytes) = 1
set_count empty_string = 0
set_count (in_turn r s) = set_count r + set_count s
set_count (or r s) = set_count r + set_count s
set_count (any_times r) = set_count r
set_count (some_times r) = set_count r
set_count (maybe r) = set_count r

-- the set with this number; empty past the last one
abbrev pub set_at : Plain → ℕ → List ℕ
set_at r k = slice_index_or (sets r) k []

-- The same expression over numbers instead of bytes: each set that has a byte is replaced by its number. Numbers count
-- from the left, starting at base.
abbrev pub numbered : Plain → ℕ → Plain
numbered (one_of []) base = one_of []
numbered (one_of (b ∷ bytes)) base = one_of (base ∷ [])
numbered empty_string base = empty_string
numbered (in_turn r s) base = in_turn (numbered r base) (numbered s (base + set_count r))
numbered (or r s) base = or (numbered r base) (numbered s (base + set_count r))
numbered (any_times r) base = any_times (numbered r base)
numbered (some_times r) base = some_times (numbered r base)
numbered (maybe r) base = maybe (numbered r base)

-- A path: the numbers of the sets that a string visits one after another, then the end mark, whose number follows those
-- of all sets.
abbrev pub Path : Plain → List ℕ → Type 0
Path r ks = (js : List ℕ) × Member (numbered r 0) js × (ks ≡ js ++ set_count r ∷ [])

-- k is a position: some path goes through it
abbrev pub IsPosition : Plain → ℕ → Type 0
IsPosition r k = (js : List ℕ) × (ks : List ℕ) × Path r (js ++ k ∷ ks)

-- every set has a byte
abbrev pub IsFull : Plain → Type 0
IsFull (one_of bytes) = bytes ≢ []
IsFull empty_string = Unit {0}
IsFull (in_turn r s) = IsFull r × IsFull s
IsFull (or r s) = IsFull r × IsFull s
IsFull (any_times r) = IsFull r
IsFull (some_times r) = IsFull r
IsFull (maybe r) = IsFull r

-- k can come first: some path begins with it
abbrev pub ComesFirst : Plain → ℕ → Type 0
ComesFirst r k = (ks : List ℕ) × Path r (k ∷ ks)

-- l can come next after k: they are adjacent in some path
abbrev pub ComesAfter : Plain → ℕ → ℕ → Type 0
ComesAfter r k l = (js : List ℕ) × (ks : List ℕ) × Path r (js ++ k ∷ l ∷ ks)

-- w is read along these numbers: each byte is in the set of its number
abbrev pub IsReadAlong : Plain → List ℕ → List ℕ → Type 0
IsReadAlong r js w = AllZip (λ j b. Contains (set_at r j) b) js w

-- k can come next after w: some path continues with k after numbers along which w is read
abbrev pub ComesNext : Plain → List ℕ → ℕ → Type 0
ComesNext r w k = (js : List ℕ) × (ks : List ℕ) × Path r (js ++ k ∷ ks) × IsReadAlong r js w
