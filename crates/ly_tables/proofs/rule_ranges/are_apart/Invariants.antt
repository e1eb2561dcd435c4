use Rattle.ly_tables.proofs.PlaceLemmas.{AreMarked}
use Rattle.ly_tables.proofs.rule_ranges.are_apart.Given as goal

-- no two of the places so far are equal, and these are marked
abbrev pub invariant-loop-place : goal.invariant-loop-place
invariant-loop-place l = AreMarked l.places l.seen l.place-index
