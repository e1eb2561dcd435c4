use Rattle.std.proofs.Common.{ℕ, ◌⊎◌, take}
use Rattle.std.specs.Prelude.{◌↔◌, Contains}
use Rattle.ly_lr0.specs.Private.Closing.{IsRuleAtEnd}
use Rattle.ly_lr0.proofs.closing.complete_rules.Given as goal

-- the rules that are known and those of the items before this one are listed
abbrev pub invariant-loop-item : goal.invariant-loop-item
invariant-loop-item l = (p : ℕ) → Contains l.rules.items p
    ↔ (Contains l.known p ⊎ IsRuleAtEnd l.reduced.grammar (take l.item-index l.items) p)
