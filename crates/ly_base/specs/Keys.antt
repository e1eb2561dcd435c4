-- Lists used as lookup tables.
use Rattle.std.specs.Prelude.{◌≡◌, ℕ, ◌<◌, List, [], Some, cond, length, slice_index_or}
use Rattle.std.specs.Map.{lookup}
use Rattle.std.specs.Str.{bytes_eq}

-- the key isn't among these
abbrev pub IsAbsent : {X : Type 0} → List (List X) → List X → Type 0
IsAbsent keys key = (n : ℕ) → n < length keys → slice_index_or keys n [] ≡ key → ⊥

-- Two maps are lists of entries with names as keys. The second has this value at this name and otherwise equals the
-- first.
abbrev pub PutsAt : {K V : Type 0} → (K → List ℕ) → List ℕ → V → List (K × V) → List (K × V) → Type 0
PutsAt name_of name v before after = (n : List ℕ) → lookup (λ k. bytes_eq n (name_of k)) after
    ≡ cond (bytes_eq n name) (Some v) (lookup (λ k. bytes_eq n (name_of k)) before)
