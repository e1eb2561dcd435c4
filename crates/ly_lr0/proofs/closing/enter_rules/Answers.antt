use Rattle.std.proofs.Common.{sym, subst}
use Rattle.std.proofs.lemmas.List.{take_more}
use Rattle.ly_lr0.specs.Private.Closing.{AreAdded}
use Rattle.ly_lr0.proofs.ClosingLemmas.{are_added_more}
use Rattle.ly_lr0.proofs.closing.enter_rules.Goals as goal

pub loop-rule-preserved : goal.loop-rule-preserved
loop-rule-preserved c =
    subst (λ rs. AreAdded c.args.reduced.now.grammar rs c.args.entered.now c.enter.new.entered)
    (sym (take_more c.args.rules.now c.loop-rule.rule-index _ c.loop-rule-test.true))
    (are_added_more c.args.reduced.now.grammar _ _ c.args.entered.now c.loop-rule.entered c.enter.new.entered
    c.loop-rule.invariant c.enter.ensures)
