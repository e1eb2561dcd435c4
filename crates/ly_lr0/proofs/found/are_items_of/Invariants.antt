use Rattle.std.proofs.Common.{◌≡◌, ◌≤◌, length, map, take}
use Rattle.ly_lr0.proofs.found.are_items_of.Given as goal

-- the items before this place are the same
abbrev pub invariant-loop-at : goal.invariant-loop-at
invariant-loop-at l = record {
  within : l.at ≤ length l.moves;
  same : take l.at l.kernel ≡ map (λ m. m.item) (take l.at l.moves);
}
