-- Regular expressions over bytes, and the strings that they match (POSIX, XBD 9.4 as lex changes it).
use Rattle.std.specs.Prelude.{◌≡◌, ℕ, zero, suc, ◌≤◌, ◌<◌, List, [], ◌∷◌, ◌++◌, length, slice_get, Contains, Option}
use Rattle.std.specs.Prelude.{Some, None, ◌⊎◌}

-- An expression. A set is the list of its bytes; a name is a number into a list of definitions.
pub data Expression : Type 0 where
  set : List ℕ → Expression
  empty : Expression
  concat : Expression → Expression → Expression
  either : Expression → Expression → Expression
  star : Expression → Expression
  plus : Expression → Expression
  optional : Expression → Expression
  repeat : ℕ → Option ℕ → Expression → Expression
  name : ℕ → Expression

-- w is k members of L, one after another
abbrev pub Concatenated : (List ℕ → Type 0) → ℕ → List ℕ → Type 0
Concatenated L zero w = w ≡ []
Concatenated L (suc k) w = (u : List ℕ) × (v : List ℕ) × (w ≡ u ++ v) × L u × Concatenated L k v

-- k is at most the bound, if there is one
abbrev pub IsAtMost : ℕ → Option ℕ → Type 0
IsAtMost k None = Unit {0}
IsAtMost k (Some n) = k ≤ n

-- The expression matches w, if N gives the strings of each name by its number.
abbrev pub MatchesUnder : (ℕ → List ℕ → Type 0) → Expression → List ℕ → Type 0
MatchesUnder N (set bytes) w = (b : ℕ) × Contains bytes b × (w ≡ b ∷ [])
MatchesUnder N empty w = w ≡ []
MatchesUnder N (concat r s) w = (u : List ℕ) × (v : List ℕ) × (w ≡ u ++ v) × MatchesUnder N r u × MatchesUnder N s v
MatchesUnder N (either r s) w = MatchesUnder N r w ⊎ MatchesUnder N s w
MatchesUnder N (star r) w = (k : ℕ) × Concatenated (MatchesUnder N r) k w
MatchesUnder N (plus r) w = (k : ℕ) × (1 ≤ k) × Concatenated (MatchesUnder N r) k w
MatchesUnder N (optional r) w = (w ≡ []) ⊎ MatchesUnder N r w
MatchesUnder N (repeat m n r) w = (k : ℕ) × (m ≤ k) × IsAtMost k n × Concatenated (MatchesUnder N r) k w
MatchesUnder N (name x) w = N x w

-- The strings of name x, given the first n definitions: each uses earlier ones only.
abbrev pub NamedUpTo : List Expression → ℕ → ℕ → List ℕ → Type 0
NamedUpTo names zero x w = ⊥
NamedUpTo names (suc n) x w = ((x ≡ n) × (d : Expression) × (slice_get names n ≡ Some d)
    × MatchesUnder (NamedUpTo names n) d w) ⊎ ((x < n) × NamedUpTo names n x w)

-- The expression matches the byte string w. A name matches what its definition matches.
abbrev pub Matches : List Expression → Expression → List ℕ → Type 0
Matches names r w = MatchesUnder (NamedUpTo names (length names)) r w
