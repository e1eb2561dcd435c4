-- Lists that are made of one another, each of an earlier one and an entry behind it.
use Rattle.std.specs.Prelude.{◌≡◌, ℕ, suc, ◌<◌, ◌≤◌, List, [], ◌∷◌, ◌++◌, length, map, slice_get, slice_index_or, Some}
use Rattle.ly_position.specs.declared.grown.Extended.{Extended}

-- some lists, and behind them one for each that is extended
abbrev pub grown_from : List (List ℕ) → List Extended → List (List ℕ)
grown_from lists [] = lists
grown_from lists (l ∷ ls) = grown_from (lists ++ (slice_index_or lists l.before [] ++ l.last ∷ []) ∷ []) ls

-- the empty list, and one for each that is extended
abbrev pub grown : List Extended → List (List ℕ)
grown ls = grown_from ([] ∷ []) ls

-- where there are so many lists before them, each is of an earlier one
abbrev pub AreExtended : ℕ → List Extended → Type 0
AreExtended n [] = n ≡ n
AreExtended n (l ∷ ls) = (l.before < n) × AreExtended (suc n) ls

-- the list of a number is made of that one and the entry
abbrev pub IsExtendedAt : List Extended → ℕ → ℕ → ℕ → Type 0
IsExtendedAt ls number before entry = (m : ℕ) × (l : Extended) × (number ≡ suc m) × (slice_get ls m ≡ Some l)
    × (l.before ≡ before) × (l.last ≡ entry)

-- some lists, each picked by its number among others
abbrev pub picked : List (List ℕ) → List ℕ → List (List ℕ)
picked lists numbers = map (λ n. slice_index_or lists n []) numbers

-- for each list an earlier one that is the same, or itself
pub record AreTwins (lists : List (List ℕ)) (twins : List ℕ) : Type 0 where
  pub count : length twins ≡ length lists
  pub less : (k : ℕ) → k < length lists → slice_index_or twins k 0 ≤ k
  pub same : (k : ℕ) → k < length lists → slice_index_or lists (slice_index_or twins k 0) [] ≡ slice_index_or lists k []
