-- The lengths of the strings of an expression.
use Rattle.std.specs.Prelude.{◌≡◌, ◌≢◌, ℕ, ◌<◌, ◌≤◌, ◌^◌, min, List, [], length, slice_get, slice_index_or, Some}
use Rattle.ly_ere.specs.Expression.{Expression, set, empty, concat, either, star, plus, optional, repeat, name}
use Rattle.ly_ere.specs.Expression.{IsAtMost, Matches}
use Rattle.ly_ere.specs.Weight.{named_weight}
use Rattle.ly_ere.specs.declared.length.Lengths.{Lengths}

-- each name in the expression is below n, each set has a member, and each repetition has possible bounds
abbrev pub IsSound : ℕ → Expression → Type 0
IsSound n (set bytes) = bytes ≢ []
IsSound n empty = Unit {0}
IsSound n (concat r s) = IsSound n r × IsSound n s
IsSound n (either r s) = IsSound n r × IsSound n s
IsSound n (star r) = IsSound n r
IsSound n (plus r) = IsSound n r
IsSound n (optional r) = IsSound n r
IsSound n (repeat k m r) = IsAtMost k m × IsSound n r
IsSound n (name x) = x < n

-- each definition is sound with the names before it
abbrev pub AreSound : List Expression → Type 0
AreSound names = (x : ℕ) (d : Expression) → slice_get names x ≡ Some d → IsSound x d

-- counting stops at this length; every accepted weight is less
abbrev pub far : ℕ
far = 2 ^ 32

-- These are the least and the greatest length of the strings of L, counted up to c. L weighs w and has a string.
pub record AreLengthsUpTo (c w : ℕ) (L : List ℕ → Type 0) (l : Lengths) : Type 0 where
  pub light : l.least ≤ w
  pub short : List ℕ
  pub short_in : L short
  pub short_is : min (length short) c ≡ l.least
  pub long : List ℕ
  pub long_in : L long
  pub long_is : min (length long) c ≡ l.most
  pub not_below : (u : List ℕ) → L u → l.least ≤ min (length u) c
  pub not_above : (u : List ℕ) → L u → min (length u) c ≤ l.most

-- the same, counted up to far
abbrev pub AreLengths : ℕ → (List ℕ → Type 0) → Lengths → Type 0
AreLengths w L l = AreLengthsUpTo far w L l

-- the lengths of the definition with this number
abbrev pub lengths_at : List Lengths → ℕ → Lengths
lengths_at ls x = slice_index_or ls x (record { least = 0; most = 0 })

-- These are the lengths of the definitions, in order of their numbers.
pub record AreNamedLengths (names : List Expression) (ls : List Lengths) : Type 0 where
  pub counted : length ls ≡ length names
  pub measured : (x : ℕ) → x < length names
      → AreLengths (named_weight names (length names) x) (Matches names (name x)) (lengths_at ls x)
