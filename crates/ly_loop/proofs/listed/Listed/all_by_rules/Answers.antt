use Rattle.std.proofs.Common.{subst, sym, take}
use Rattle.std.proofs.lemmas.List.{take_all, take_more}
use Rattle.std.proofs.lemmas.List.Elements.{Contains-get_or}
use Rattle.ly_loop.specs.Private.Summary.{IsSummaryByAll}
use Rattle.ly_loop.proofs.ByRuleLemmas.{all_is, more_is, no_rule}
use Rattle.ly_loop.proofs.listed.Listed.all_by_rules.Goals as goal

pub by_rule-requires-clause-rule : goal.by_rule-requires-clause-rule
by_rule-requires-clause-rule g c =
    c.requires.rules.rules _ (Contains-get_or c.args.rules.now c.loop-rule.rule-index no_rule c.loop-rule-test.true)

pub loop-rule-preserved : goal.loop-rule-preserved
loop-rule-preserved g c =
    let m = c.args.self.now in
    let rules = c.args.rules.now in
    let k = c.loop-rule.rule-index in
    subst (λ rs. IsSummaryByAll m c.args.tokens c.args.edge.below.0 c.args.edge.top.0 rs c.joined-all.result)
    (sym (take_more rules k no_rule c.loop-rule-test.true))
    (more_is m c.args.tokens c.args.edge.below.0 c.args.edge.top.0 (take k rules) _ c.loop-rule.all c.in-Known.summary
    c.joined-all.result c.loop-rule.invariant c.in-Known.ensures (c.joined-all.ensures m))

pub returns : goal.returns
returns g c =
    let m = c.args.self.now in
    let below = c.args.edge.below.0 in
    let top = c.args.edge.top.0 in
    all_is m c.args.tokens below top c.args.rules.now c.loop-rule.all c.requires.rules
    (subst (λ rs. IsSummaryByAll m c.args.tokens below top rs c.loop-rule.all)
    (take_all c.loop-rule.rule-index c.args.rules.now c.loop-rule-test.false) c.loop-rule.invariant)
