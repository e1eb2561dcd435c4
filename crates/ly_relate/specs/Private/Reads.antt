-- Transitions that are read, as they are found.
use Rattle.std.specs.Prelude.{◌≤◌, ◌<◌, ◌≡◌, ℕ, [], ◌∷◌, Some, slice_get}
use Rattle.ly_join.specs.Grammar.{nonterminal}
use Rattle.ly_grammar.specs.Derivations.{IsNullable}
use Rattle.ly_relate.specs.Private.Gotos.{Numbering}
use Rattle.ly_relate.specs.Related.{Goto}

-- a transition among those of these numbers is over a nullable nonterminal
abbrev pub IsNullableWithin : Numbering → ℕ → ℕ → ℕ → Type 0
IsNullableWithin n start end j = (start ≤ j) × (j < end) × (y : Goto) × (slice_get n.gotos j ≡ Some y)
    × IsNullable n.automaton.grammar (nonterminal y.symbol ∷ [])
