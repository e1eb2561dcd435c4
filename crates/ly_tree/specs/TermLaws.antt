-- Laws of forests and of printed terms.
use Rattle.std.specs.Prelude.{◌≡◌}
use Rattle.ly_tree.specs.Forest.{Grown, StandsFor}
use Rattle.ly_tree.specs.Term.{Term}
use Rattle.ly_tree.specs.declared.forest.TermRef.{TermRef}

-- a reference represents exactly one term
abbrev pub StandsForOne : Type 0
StandsForOne = (f : Grown) (r : TermRef) (s t : Term) → StandsFor f r s → StandsFor f r t → s ≡ t
