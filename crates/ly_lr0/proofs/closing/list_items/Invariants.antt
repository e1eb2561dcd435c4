use Rattle.std.proofs.Common.{◌≡◌, ◌⊎◌, [], take}
use Rattle.std.specs.Prelude.{◌↔◌, Contains}
use Rattle.ly_lr0.specs.declared.item.Item.{Item}
use Rattle.ly_lr0.specs.Private.Closing.{IsListed}
use Rattle.ly_lr0.proofs.closing.list_items.Given as goal

-- the rules of the nonterminals before this one are listed
abbrev pub invariant-loop-left : goal.invariant-loop-left
invariant-loop-left l = (i : Item) → Contains l.items.items i
    ↔ IsListed l.by_left [] (take l.left-index l.entered) i

-- and those of this one before this rule
abbrev pub invariant-loop-rule : goal.invariant-loop-rule
invariant-loop-rule l = (i : Item) → Contains l.items.items i
    ↔ (IsListed l.by_left [] (take l.left-index l.entered) i
    ⊎ (Contains (take l.rule-index l.rule-items) i.rule × (i.dot ≡ 0)))
