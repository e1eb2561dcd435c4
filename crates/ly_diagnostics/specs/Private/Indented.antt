-- What is added to the lines that are found.
use Rattle.std.specs.Prelude.{◌≡◌, ◌⊎◌, ◌++◌, ◌∷◌, [], ℕ, List}
use Rattle.ly_diagnostics.specs.Indented.{HoldsWords}
use Rattle.ly_diagnostics.specs.declared.lex_units.Kind.TheVariants.{Unused}
use Rattle.ly_diagnostics.specs.declared.lex_units.Unit.{Unit}

-- nothing was added, or the first line of a unit that isn't used, which holds words
abbrev pub IsAdded : List ℕ → Unit → List ℕ → List ℕ → Type 0
IsAdded old unit line new = (new ≡ old)
    ⊎ ((new ≡ old ++ unit.first ∷ []) × (unit.kind ≡ Unused) × HoldsWords line)
