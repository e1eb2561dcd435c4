use Rattle.std.proofs.Common.{◌-◌, arith, refl, subst, sym}
use Rattle.ly_pack.specs.Machine.{IsRuleNumber, IsTableRule}
use Rattle.ly_pack.specs.Values.{rule_from}
use Rattle.ly_loop.specs.Private.Listed.{IsListed}
use Rattle.ly_loop.proofs.ByRuleLemmas.{leaves_by}
use Rattle.ly_loop.proofs.listed.Listed.by_rule.Goals as goal

pub rule-rule-requires : goal.rule-rule-requires
rule-rule-requires g c = subst (λ n. IsRuleNumber n c.args.rule.0) (sym c.self.view_is) c.requires.rule

pub returns : goal.returns
returns g c =
    let m = c.args.self.now in
    let r = rule_from c.rule-rule.result.now in
    let listed = subst (λ n. IsListed n c.self.inside.entries.now c.self.inside.gotos.now c.self.inside.reductions.now)
    c.self.view_is c.self.invariant in
    leaves_by m c.args.tokens c.args.edge.below.0 c.args.edge.top.0 c.args.rule.0 r (r.body_length - 2)
    c.rule-rule.result.now.left listed.countable.machine
    (subst (λ n. IsTableRule n c.args.rule.0 r) c.self.view_is c.rule-rule.ensures) refl (omega arith)
