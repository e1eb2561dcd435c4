use Rattle.std.proofs.Common.{◌⊎◌, ◌∙◌, ℕ, ap, arith, subst, take}
use Rattle.std.specs.Prelude.{Contains, ◌↔◌}
use Rattle.std.proofs.lemmas.List.{take_all, take_more}
use Rattle.std.proofs.lemmas.List.Elements.{Contains-get_or}
use Rattle.std.proofs.lemmas.List.Filters.{dedup_is}
use Rattle.std.proofs.lemmas.List.Kept.{AllPairs-from_increasing, Contains-dedup_nat, Contains-from_dedup}
use Rattle.std.proofs.lemmas.List.Sorted.{Contains-permutation, IsPermutation-sym}
use Rattle.std.proofs.lemmas.Map.Keys.{IsStrictlyIncreasing-dedup}
use Rattle.ly_lr0.specs.Private.Closing.{IsRuleAtEnd}
use Rattle.ly_lr0.proofs.ListLemmas.{end_of, not_end, rules_more, rules_same}
use Rattle.ly_lr0.proofs.closing.complete_rules.Goals as goal
use Rattle.ly_lr0.proofs.closing.complete_rules.Goals.{then-is_none+in_ok-push, else-is_none}

pub move_of-requires : goal.move_of-requires
move_of-requires c = c.requires _
    (Contains-get_or c.args.items.now c.loop-item.item-index (record { rule = 0; dot = 0 })
    c.loop-item-test.true)

pub loop-item-preserved : goal.loop-item-preserved
loop-item-preserved c =
    let G = c.args.reduced.now.grammar in
    let items = c.args.items.now in
    let k = c.loop-item.item-index in
    let more = take_more items k (record { rule = 0; dot = 0 }) c.loop-item-test.true in
    elim c.if-is_none.branch [
      | then-is_none+in_ok-push w ↦ rules_more G c.args.known.now (take k items) _ _ c.loop-item.rules.items
          c.if-is_none.rules.items
          c.loop-item.invariant more (end_of G _ c.move_of.result c.move_of.ensures.behind c.is_none.result
          c.is_none.ensures w.if-is_none.true) (ap (λ v. v.items) w.rules-is ∙ w.in_ok-push.ensures.items)
      | else-is_none w ↦ rules_same G c.args.known.now (take k items) _ _ c.loop-item.rules.items
          c.if-is_none.rules.items
          c.loop-item.invariant more (not_end G _ c.move_of.result c.move_of.ensures.behind c.is_none.result
          c.is_none.ensures w.if-is_none.false) (ap (λ v. v.items) w.rules-is)
    ]

pub returns-clause-each : goal.returns-clause-each
returns-clause-each c p =
    let is = dedup_is _ _ _ c.dedup.ensures.filtered in
    let moved = c.sort_unstable.ensures.permutation in
    let all = subst (λ is. (p : ℕ) → Contains c.loop-item.rules.items p
    ↔ (Contains c.args.known.now p ⊎ IsRuleAtEnd c.args.reduced.now.grammar is p))
    (take_all c.loop-item.item-index c.args.items.now (omega (arith, c.loop-item-test.false)))
    c.loop-item.invariant in (
      λ h. (all p).0 (Contains-permutation _ _ p (IsPermutation-sym _ _ moved)
          (Contains-from_dedup _ _ p (rw is at h))),
      λ h. rw is (Contains-dedup_nat _ p (Contains-permutation _ _ p moved ((all p).1 h))),
    )

pub returns-clause-rising : goal.returns-clause-rising
returns-clause-rising c =
    let is = dedup_is _ _ _ c.dedup.ensures.filtered in
    rw is (AllPairs-from_increasing _ (IsStrictlyIncreasing-dedup _ c.sort_unstable.ensures.sorted))
