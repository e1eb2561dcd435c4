use Rattle.std.proofs.Common.{◌≡◌, ◌++◌, map, take}
use Rattle.ly_places.specs.Private.Waiting.{waiting_at}
use Rattle.ly_places.proofs.flattening.push_places.Given as goal

-- those at the places before this one are appended
abbrev pub invariant-loop-place : goal.invariant-loop-place
invariant-loop-place l =
    l.waiting.items ≡ l.fn.waiting.items ++ map (waiting_at l.body) (take l.place-index l.places)
