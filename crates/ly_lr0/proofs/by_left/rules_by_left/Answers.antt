use Rattle.std.proofs.Common.{◌≡◌, ◌<◌, ◌+◌, ◌∙◌, ap, arith, length, subst, sym, true}
use Rattle.std.specs.Prelude.{Some}
use Rattle.std.proofs.lemmas.List.{length-map}
use Rattle.ly_join.specs.Grammar.{GrammarRule}
use Rattle.ly_lr0.proofs.ByLeftLemmas.{HasRulesBelow, by_left_done, by_left_more, by_left_same, left_within}
use Rattle.ly_lr0.proofs.by_left.rules_by_left.Goals as goal
use Rattle.ly_lr0.proofs.by_left.rules_by_left.Goals.{then-is_kept+in_ok-add, else-is_kept}

pub loop-number-preserved : goal.loop-number-preserved
loop-number-preserved c =
    let F = c.grammar-grammar.result.now in
    let R = c.args.reduced.now in
    let n = c.loop-number.number in
    let was = c.loop-number.invariant in
    elim c.if-is_kept.branch [
      | then-is_kept+in_ok-add w ↦
          let is = c.grammar-grammar.ensures in
          let kept = c.is_kept.ensures.0 w.if-is_kept.true in
          let less : w.left.result.0 < length c.loop-number.by_left
          = left_within F R n w.rule.result.now w.left.result.0 is kept w.rule.ensures.there w.left.ensures
          (length c.loop-number.by_left) was.count in
          let more = by_left_more F R c.loop-number.by_left n is was.count was.rules w.add.new.self w.rule.result.now
          w.left.result.0 kept w.rule.ensures.there w.left.ensures w.in_ok-add.ensures less in
          record {
            count = ap length w.by_left-is ∙ more.0;
            rules = subst (λ ls. HasRulesBelow R.grammar ls (n + 1)) (sym w.by_left-is) more.1;
          }
      | else-is_kept w ↦
          record {
            count = ap length w.by_left-is ∙ was.count;
            rules = subst (λ ls. HasRulesBelow R.grammar ls (n + 1)) (sym w.by_left-is)
                (by_left_same F R c.loop-number.by_left n c.grammar-grammar.ensures was.count was.rules
                (λ k. let on : c.is_kept.result ≡ true = c.is_kept.ensures.1 k in let off = w.if-is_kept.false in cc));
          }
    ]

pub returns : goal.returns
returns c = by_left_done c.grammar-grammar.result.now c.args.reduced.now c.loop-number.by_left c.loop-number.number
    c.grammar-grammar.ensures c.loop-number.invariant.count c.loop-number.invariant.rules
    (let end = c.loop-number-test.false in
    omega (
      arith,
      end,
      ap length c.rules-number-end.ensures.these,
      length-map c.rules-number-end.result.now
          (λ (r : GrammarRule). Some r),
    ))
