-- Lists of symbols that grow by those that are new.
use Rattle.std.specs.Prelude.{List, [], ◌∷◌, ◌++◌, Bool, fold, if◌then◌else◌}
use Rattle.std.specs.List.{list_any}

-- with one that appears, where it is new
abbrev pub with_one : {X : Type 0} → (X → X → Bool) → List X → X → List X
with_one same ys x = if list_any (same x) ys then ys else ys ++ x ∷ []

-- with all that appear
abbrev pub with_all : {X : Type 0} → (X → X → Bool) → List X → List X → List X
with_all same ys xs = fold (with_one same) ys xs
