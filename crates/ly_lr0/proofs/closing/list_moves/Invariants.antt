use Rattle.std.proofs.Common.{take, ◌≡◌, ◌⊎◌}
use Rattle.std.specs.Prelude.{◌↔◌, Contains}
use Rattle.ly_lr0.specs.declared.item.Move.{Move}
use Rattle.ly_lr0.specs.Private.Closing.{IsMoveOfOne}
use Rattle.ly_lr0.proofs.closing.list_moves.Given as goal

-- the known moves before this one are listed
abbrev pub invariant-loop-step : goal.invariant-loop-step
invariant-loop-step l = l.moves.items ≡ take l.step-index l.known

-- the moves that are known and those of the items before this one are listed
abbrev pub invariant-loop-item : goal.invariant-loop-item
invariant-loop-item l = (m : Move) → Contains l.moves.items m
    ↔ (Contains l.known m ⊎ IsMoveOfOne l.reduced.grammar (take l.item-index l.items) m)
