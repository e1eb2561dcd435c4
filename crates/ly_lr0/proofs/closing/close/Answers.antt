use Rattle.std.proofs.Common.{◌<◌, ◌∙◌, ap, sym, subst, arith, length, slice_index_or, []}
use Rattle.std.proofs.lemmas.List.{take_more}
use Rattle.std.proofs.lemmas.List.Elements.{Contains-get_or}
use Rattle.std.specs.Prelude.{Contains}
use Rattle.ly_lr0.specs.Private.Closing.{AreAdded}
use Rattle.ly_lr0.proofs.ClosingLemmas.{IsClosing, closing_end, closing_item, closing_next, entered_within}
use Rattle.ly_lr0.proofs.closing.close.Goals as goal

pub loop-item-preserved : goal.loop-item-preserved
loop-item-preserved c =
    let G = c.args.reduced.now.grammar in
    let kernel = c.args.kernel.now in
    let k = c.loop-item.item-index in
    record {
      below = c.enter.ensures.below ∙ c.loop-item.invariant.below;
      closing = subst (λ is. IsClosing G c.args.by_left.now kernel is 0 c.enter.new.entered)
          (sym (take_more kernel k (record { rule = 0; dot = 0 }) c.loop-item-test.true))
          (closing_item G c.args.by_left.now kernel _ _ c.loop-item.entered c.enter.new.entered
          c.loop-item.invariant.closing (Contains-get_or kernel k (record { rule = 0; dot = 0 }) c.loop-item-test.true)
          c.enter.ensures);
    }

pub of-requires : goal.of-requires
of-requires c =
    let G = c.args.reduced.now.grammar in
    let by = c.requires.by_left in
    let members = c.members-in-loop-next.result.now in
    let same = c.members-in-loop-next.ensures.these in
    let tested = c.members.ensures.these in
    let at = c.loop-next.next in
    let less : at < length members = omega (arith, c.loop-next-test.true, ap length same, ap length tested) in
    let left = slice_index_or members at 0 in
    let entered = c.loop-next.invariant.closing.sound left (subst (λ ms. Contains ms left) same
    (Contains-get_or members at 0 less)) in
    let within : left < G.accept = entered_within G c.args.by_left.now c.args.kernel.now by left entered in
    let count = by.count in
    omega (arith, within, count)

pub enter_rules-requires-clause-kept : goal.enter_rules-requires-clause-kept
enter_rules-requires-clause-kept c q h =
    let G = c.args.reduced.now.grammar in
    let by = c.requires.by_left in
    let members = c.members-in-loop-next.result.now in
    let same = c.members-in-loop-next.ensures.these in
    let tested = c.members.ensures.these in
    let at = c.loop-next.next in
    let less : at < length members = omega (arith, c.loop-next-test.true, ap length same, ap length tested) in
    let left = slice_index_or members at 0 in
    let entered = c.loop-next.invariant.closing.sound left (subst (λ ms. Contains ms left) same
    (Contains-get_or members at 0 less)) in
    let within : left < G.accept = entered_within G c.args.by_left.now c.args.kernel.now by left entered in
    let r = (by.rules left q (omega (arith, within))).0 (subst (λ qs. Contains qs q) c.of.ensures h) in
    (r.0, r.1)

pub loop-next-preserved : goal.loop-next-preserved
loop-next-preserved c =
    let G = c.args.reduced.now.grammar in
    let lists = c.args.by_left.now in
    let s = c.loop-next.entered in
    let same = c.members-in-loop-next.ensures.these in
    let tested = c.members.ensures.these in
    let at = c.loop-next.next in
    let less : at < length s.members = omega (arith, c.loop-next-test.true, ap length tested) in
    record {
      below = c.enter_rules.ensures.below ∙ c.loop-next.invariant.below;
      closing = closing_next G lists c.args.kernel.now c.requires.by_left c.args.kernel.now at s
          c.enter_rules.new.entered
          c.loop-next.invariant.closing less (subst (λ rs. AreAdded G rs s c.enter_rules.new.entered)
          (c.of.ensures ∙ ap (λ ms. slice_index_or lists (slice_index_or ms at 0) []) same) c.enter_rules.ensures);
    }

pub returns-clause-entered : goal.returns-clause-entered
returns-clause-entered c =
    let tested = c.members.ensures.these in
    closing_end c.args.reduced.now.grammar c.args.by_left.now c.args.kernel.now c.requires.by_left c.loop-next.entered
    c.loop-next.next c.loop-next.invariant.closing (omega (arith, c.loop-next-test.false, ap length tested))
