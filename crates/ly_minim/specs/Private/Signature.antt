-- What a partition sees of a state.
use Rattle.std.specs.Prelude.{ℕ, List, [], ◌∷◌, ◌++◌, flat_map, slice_index_or, Option, Some, None, option_map}
use Rattle.std.specs.List.{range_with_len}
use Rattle.ly_subset.specs.Automaton.{Automaton, next_by_class, rule_of}

-- the block of a state
abbrev pub block_of : List ℕ → ℕ → ℕ
block_of of s = slice_index_or of s 0

-- whether there is a number, and the number
abbrev pub marked : Option ℕ → List ℕ
marked None = 0 ∷ 0 ∷ []
marked (Some n) = 1 ∷ n ∷ []

-- the block that a class leads to
abbrev pub block_after : Automaton → List ℕ → ℕ → ℕ → Option ℕ
block_after A of s c = option_map (block_of of) (next_by_class A s c)

-- the block of a state, its rule, and the blocks that the classes lead to
abbrev pub signature_of : Automaton → List ℕ → ℕ → List ℕ
signature_of A of s = (block_of of s ∷ marked (rule_of A (Some s)))
    ++ flat_map (λ c. marked (block_after A of s c)) (range_with_len 0 A.classes)
