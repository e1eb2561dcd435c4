-- States grouped by a key: the states of a key are a chain from the last one to the first.
use Rattle.std.specs.Prelude.{◌≡◌, ℕ, ◌<◌, ◌+◌, List, length, Option, Some, None}
use Rattle.ly_subset.specs.Automaton.{entry_at}

-- how many states there are up to one, none where there is none
abbrev pub past : Option ℕ → ℕ
past None = 0
past (Some s) = s + 1

-- chains of the states below n, each from later states to earlier ones
pub record AreChains (n : ℕ) (last before : List (Option ℕ)) : Type 0 where
  pub states : length before ≡ n
  pub within : (k s : ℕ) → entry_at last k ≡ Some s → s < n
  pub falls : (s t : ℕ) → entry_at before t ≡ Some s → s < t

-- the chain of each key goes over the states below n with that key, and leaves out none
pub record AreGrouped (n : ℕ) (key : ℕ → Option ℕ) (last before : List (Option ℕ)) : Type 0 where
  pub last_key : (k s : ℕ) → entry_at last k ≡ Some s → key s ≡ Some k
  pub before_key : (s t : ℕ) → t < n → entry_at before t ≡ Some s → key s ≡ key t
  pub last_of : (s k : ℕ) → s < n → key s ≡ Some k → s < past (entry_at last k)
  pub next_of : (s t k : ℕ) → s < t → t < n → key s ≡ Some k → key t ≡ Some k → s < past (entry_at before t)
