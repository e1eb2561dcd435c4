use Rattle.std.proofs.Common.{◌≡◌, ◌-◌, take}
use Rattle.ly_lr0.proofs.ClosingLemmas.{IsClosing}
use Rattle.ly_lr0.proofs.closing.close.Given as goal

-- the nonterminals of the items before this one are entered
abbrev pub invariant-loop-item : goal.invariant-loop-item
invariant-loop-item l = record {
  below : l.entered.below ≡ l.fn.entered.below;
  closing : IsClosing l.reduced.grammar l.by_left l.kernel (take l.item-index l.kernel) 0 l.entered;
}

-- and those that the rules of the first entered ones begin with
abbrev pub invariant-loop-next : goal.invariant-loop-next
invariant-loop-next l = record {
  below : l.entered.below ≡ l.fn.entered.below;
  closing : IsClosing l.reduced.grammar l.by_left l.kernel l.kernel l.next l.entered;
}

abbrev pub decreases-loop-next : goal.decreases-loop-next
decreases-loop-next l = l.entered.below - l.next
