use Rattle.std.proofs.Common.{◌∙◌, ◌<◌, All, Some, ap, sym, subst}
use Rattle.ly_pack.specs.Machine.{goto_at, states_of}
use Rattle.ly_pack.specs.Steady.{goes_on}
use Rattle.ly_pack.specs.Values.{rule_from}
use Rattle.ly_repair.specs.Private.Stacks.{now_of}
use Rattle.ly_repair.proofs.RunLemmas.{reduces, rule_within}
use Rattle.ly_repair.proofs.UnfinishedLemmas.{kept_known, top_known}
use Rattle.ly_repair.proofs.unfinished.Unfinished.reduce.Goals as goal

pub goto-requires-clause-state : goal.goto-requires-clause-state
goto-requires-clause-state g c =
    let n = states_of c.args.machine.now in
    let now = now_of c.args.stacks.now c.pop.new.self in
    subst (λ s. s < n) (sym c.top.ensures.top) (top_known n now c.top.ensures.some
    (subst (All (λ s. s < n)) (sym (c.pop.ensures.popped c.if-not-pop.false)) (kept_known n
    c.rule-rule.result.now.body_length (now_of c.args.stacks.now c.args.self.now) c.requires.states)))

pub goto-requires-clause-left : goal.goto-requires-clause-left
goto-requires-clause-left g c = rule_within c.args.machine.now c.args.rule.0 (rule_from c.rule-rule.result.now)
    c.requires.machine c.rule-rule.ensures

pub returns-clause-made : goal.returns-clause-made
returns-clause-made g c =
    let now = now_of c.args.stacks.now c.pop.new.self in
    let r = rule_from c.rule-rule.result.now in
    reduces c.args.machine.now c.args.rule.0 r (now_of c.args.stacks.now c.args.self.now) now (Some c.in-Some.next.0)
    c.rule-rule.ensures (c.pop.ensures.popped c.if-not-pop.false) c.top.ensures.some
    (c.in-Some.ensures ∙ ap (λ s. goto_at c.args.machine.now s r.left) c.top.ensures.top)
    ∙ ap goes_on (sym (c.in_ok-push.ensures.pushed c.args.stacks.now))
