use Rattle.std.proofs.Common.{take}
use Rattle.std.specs.Prelude.{◌↔◌, Contains}
use Rattle.ly_join.specs.Grammar.{symbol_of}
use Rattle.ly_lr0.specs.Private.Items.{IsMovedOver}
use Rattle.ly_lr0.specs.declared.item.Item.{Item}
use Rattle.ly_lr0.proofs.core_items.kernel_behind.Given as goal

-- what the items before this one move to is listed
abbrev pub invariant-loop-item : goal.invariant-loop-item
invariant-loop-item l = (i : Item) → Contains l.kernel.items i
    ↔ IsMovedOver l.reduced.grammar (take l.item-index l.items) (symbol_of l.symbol) i
