use Rattle.std.proofs.Common.{ap, subst, sym}
use Rattle.ly_base.specs.Shape.{shape_of}
use Rattle.ly_pack.specs.Values.{action_from, rule_from}
use Rattle.ly_parse.specs.Private.Shortcuts.{IsPass}
use Rattle.ly_parse.proofs.PassLemmas.{is_pass}
use Rattle.ly_parse.proofs.ReduceLemmas.{rule_within}
use Rattle.ly_parse.proofs.shortcut.passed_to.Goals as goal

pub rule-rule-requires : goal.rule-rule-requires
rule-rule-requires g c = c.requires.legal c.in-Reduce.number.0 (ap action_from c.in-Reduce.is)

pub returns-in-Pass-clause-pass : goal.returns-in-Pass-clause-pass
returns-in-Pass-clause-pass g c =
    subst (λ a. IsPass c.args.machine.now a c.rule-rule.result.now.left.0) (sym (ap action_from c.in-Reduce.is))
    (is_pass c.args.machine.now c.in-Reduce.number.0 c.in-Pass.field-0 (rule_from c.rule-rule.result.now)
    c.requires.machine c.rule-rule.ensures c.if-rule-eq1.true (ap shape_of c.in-Pass.is))

pub returns-in-Pass-clause-left : goal.returns-in-Pass-clause-left
returns-in-Pass-clause-left g c =
    (rule_within c.args.machine.now c.in-Reduce.number.0 (rule_from c.rule-rule.result.now) c.requires.machine
    c.rule-rule.ensures).left
