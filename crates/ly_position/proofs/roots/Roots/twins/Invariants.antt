use Rattle.ly_position.proofs.PickedLemmas.{FirstTwins}
use Rattle.ly_position.proofs.roots.Roots.twins.Given as goal

-- the lists so far have their twins
abbrev pub invariant-loop-number : goal.invariant-loop-number
invariant-loop-number l = FirstTwins l.number l.self l.twins.items
