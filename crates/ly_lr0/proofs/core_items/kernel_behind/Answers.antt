use Rattle.std.proofs.Common.{◌≡◌, ◌∙◌, ap, arith, rules, subst, take}
use Rattle.std.specs.Prelude.{Contains, ◌↔◌}
use Rattle.std.proofs.lemmas.List.{take_all, take_more}
use Rattle.std.proofs.lemmas.List.Elements.{Contains-get_or}
use Rattle.ly_join.specs.Grammar.{symbol_of}
use Rattle.ly_lr0.specs.Private.Items.{IsMovedOver}
use Rattle.ly_lr0.specs.declared.item.Item.{Item}
use Rattle.ly_lr0.proofs.ClosingLemmas.{behind_one, end_off}
use Rattle.ly_lr0.proofs.GroupLemmas.{symbol_one}
use Rattle.ly_lr0.proofs.CoreItemLemmas.{moved_more, moved_same}
use Rattle.ly_lr0.proofs.core_items.kernel_behind.Goals as goal
use Rattle.ly_lr0.proofs.core_items.kernel_behind.Goals.{in-Some+then-eq+in_ok-push, in-Some+else-eq, in_default}

pub move_of-requires : goal.move_of-requires
move_of-requires c = c.requires _
    (Contains-get_or c.args.items.now c.loop-item.item-index (record { rule = 0; dot = 0 })
    c.loop-item-test.true)

pub loop-item-preserved : goal.loop-item-preserved
loop-item-preserved c =
    let G = c.args.reduced.now.grammar in
    let items = c.args.items.now in
    let k = c.loop-item.item-index in
    let X = symbol_of c.args.symbol in
    let more = take_more items k (record { rule = 0; dot = 0 }) c.loop-item-test.true in
    elim c.match-move_of.branch [
      | in-Some+then-eq+in_ok-push w ↦ moved_more G X (take k items) _ _ c.loop-item.kernel.items
          c.match-move_of.kernel.items c.loop-item.invariant more w.in-Some.step w.in-Some.ensures.behind
          (let here : w.in-Some.step.symbol ≡ c.args.symbol = search rules in ap symbol_of here)
          (ap (λ v. v.items) w.kernel-is ∙ w.in_ok-push.ensures.items)
      | in-Some+else-eq w ↦ moved_same G X (take k items) _ _ c.loop-item.kernel.items c.match-move_of.kernel.items
          c.loop-item.invariant more (λ b. let other : w.in-Some.step.symbol ≡ c.args.symbol → ⊥ = search rules in
          other (symbol_one _ _ (behind_one G _ _ _ _ w.in-Some.ensures.behind.behind b)))
          (ap (λ v. v.items) w.kernel-is)
      | in_default w ↦ moved_same G X (take k items) _ _ c.loop-item.kernel.items c.match-move_of.kernel.items
          c.loop-item.invariant more (λ b. end_off G _ _ w.in_default.ensures.behind b)
          (ap (λ v. v.items) w.kernel-is)
    ]

pub returns : goal.returns
returns c = subst (λ is. (i : Item) → Contains c.loop-item.kernel.items i
    ↔ IsMovedOver c.args.reduced.now.grammar is (symbol_of c.args.symbol) i)
    (take_all c.loop-item.item-index c.args.items.now (omega (arith, c.loop-item-test.false)))
    c.loop-item.invariant
