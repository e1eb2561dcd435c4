use Rattle.std.proofs.Common.{◌≡◌, map, take}
use Rattle.ly_lr0.proofs.found.items_of.Given as goal

-- the items of the moves before this one
abbrev pub invariant-loop-step : goal.invariant-loop-step
invariant-loop-step l = l.items.items ≡ map (λ m. m.item) (take l.step-index l.moves)
