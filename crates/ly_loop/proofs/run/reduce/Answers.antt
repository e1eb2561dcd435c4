use Rattle.std.proofs.Common.{◌≡◌, ◌∙◌, ◌∷◌, ◌-◌, ap, arith, length, slice_get, sym, take, None, Some}
use Rattle.ly_pack.specs.Steady.{goes_on, lacks_goto}
use Rattle.ly_pack.specs.Values.{rule_from}
use Rattle.ly_loop.specs.Private.Run.{stack_of}
use Rattle.ly_loop.proofs.RunLemmas.{reduce_to, stack_push}
use Rattle.ly_loop.proofs.run.reduce.Goals as goal

pub returns-in_default-goto-clause-made : goal.returns-in_default-goto-clause-made
returns-in_default-goto-clause-made g c =
    let xs = c.args.stack.now.items in
    let r = rule_from c.rule-rule.result.now in
    let kept : c.deref.result.now ≡ take c.in-Some.left xs = c.deref.ensures.value ∙ c.truncate.ensures.items in (
      lacks_goto,
      reduce_to c.args.machine.now c.args.rule.0 r xs c.in-Some.left c.in-Some-last.field-0.now None
          c.rule-rule.ensures (omega (arith, c.in-Some.ensures))
          (c.in-Some-last.ensures.value ∙ ap (λ w. slice_get w (length w - 1)) kept) c.in_default-goto.ensures,
    )

pub returns-clause-made : goal.returns-clause-made
returns-clause-made g c =
    let xs = c.args.stack.now.items in
    let r = rule_from c.rule-rule.result.now in
    let left = c.in-Some.left in
    let next = c.in-Some-goto.next in
    let kept : c.deref.result.now ≡ take left xs = c.deref.ensures.value ∙ c.truncate.ensures.items in
    let pushed = c.in_ok-push.ensures.items in
    reduce_to c.args.machine.now c.args.rule.0 r xs left c.in-Some-last.field-0.now (Some next.0)
    c.rule-rule.ensures (omega (arith, c.in-Some.ensures))
    (c.in-Some-last.ensures.value ∙ ap (λ w. slice_get w (length w - 1)) kept) c.in-Some-goto.ensures
    ∙ ap goes_on (ap (λ w. next.0 ∷ stack_of w) (sym c.truncate.ensures.items)
    ∙ sym (ap stack_of pushed ∙ stack_push c.truncate.new.self.items next))
