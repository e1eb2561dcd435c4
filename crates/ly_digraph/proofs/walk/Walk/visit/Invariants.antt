use Rattle.ly_digraph.specs.Search.{Continues, steps_left}
use Rattle.ly_digraph.proofs.walk.Walk.visit.Given as goal

-- the walk goes on from where the node was entered
abbrev pub invariant-loop : goal.invariant-loop
invariant-loop l = Continues l.graph l.initial.sets l.initial.self l.sets l.self

abbrev pub decreases-loop : goal.decreases-loop
decreases-loop l = steps_left l.graph l.self
