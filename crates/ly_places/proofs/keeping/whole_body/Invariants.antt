use Rattle.std.proofs.Common.{◌≡◌}
use Rattle.ly_places.specs.Shapes.{places_behind}
use Rattle.ly_places.proofs.keeping.whole_body.Given as goal

-- the first places are there
abbrev pub invariant-loop-before : goal.invariant-loop-before
invariant-loop-before l = l.places.items ≡ places_behind 0 l.before
