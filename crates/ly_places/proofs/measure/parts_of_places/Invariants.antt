use Rattle.std.proofs.Common.{◌≡◌, ◌+◌, drop}
use Rattle.ly_places.specs.Private.Measured.{parts_among}
use Rattle.ly_places.proofs.measure.parts_of_places.Given as goal

-- with those at the other places they are all
abbrev pub invariant-loop-place : goal.invariant-loop-place
invariant-loop-place l = l.parts + parts_among l.body (drop l.place-index l.places) ≡ parts_among l.body l.places
