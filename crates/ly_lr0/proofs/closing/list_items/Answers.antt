use Rattle.std.proofs.Common.{◌∙◌, [], inl, inr, arith, subst, take}
use Rattle.std.specs.Prelude.{Contains, ◌↔◌}
use Rattle.std.proofs.lemmas.List.{take_all, take_more}
use Rattle.std.proofs.lemmas.List.Elements.{Contains-get_or}
use Rattle.ly_base.proofs.MemberLemmas.{Contains-none}
use Rattle.ly_lr0.specs.declared.item.Item.{Item}
use Rattle.ly_lr0.specs.Private.Closing.{IsListed}
use Rattle.ly_lr0.proofs.ListLemmas.{listed_left, listed_rule}
use Rattle.ly_lr0.proofs.closing.list_items.Goals as goal

pub of-rule-items-requires : goal.of-rule-items-requires
of-rule-items-requires c =
    c.requires _ (Contains-get_or c.args.entered.now c.loop-left.left-index 0 c.loop-left-test.true)

pub loop-rule-init : goal.loop-rule-init
loop-rule-init c i = (
  λ h. inl ((c.loop-left.invariant i).0 h),
  λ h. elim h [
    | inl l ↦ (c.loop-left.invariant i).1 l
    | inr x ↦ Contains-none i.rule x.0
  ],
)

pub loop-rule-preserved : goal.loop-rule-preserved
loop-rule-preserved c = listed_rule (IsListed c.args.by_left.now [] (take c.loop-left.left-index
    c.args.entered.now)) c.loop-rule.items.items c.push.new.self.items _ _ _ c.loop-rule.invariant
    c.in_ok-push.ensures.items (take_more c.of-rule-items.result.now c.loop-rule.rule-index 0 c.loop-rule-test.true)

pub loop-left-preserved : goal.loop-left-preserved
loop-left-preserved c = listed_left c.args.by_left.now [] c.loop-rule.items.items _ _ _ _
    c.loop-rule.invariant
    (take_all c.loop-rule.rule-index c.of-rule-items.result.now (omega (arith, c.loop-rule-test.false))
    ∙ c.of-rule-items.ensures)
    (take_more c.args.entered.now c.loop-left.left-index 0 c.loop-left-test.true)

pub returns : goal.returns
returns c = subst (λ es. (i : Item) → Contains c.loop-left.items.items i ↔ IsListed c.args.by_left.now [] es i)
    (take_all c.loop-left.left-index c.args.entered.now (omega (arith, c.loop-left-test.false))) c.loop-left.invariant
