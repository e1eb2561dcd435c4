use Rattle.std.proofs.Common.{◌∙◌, ◌-◌, ap, arith, length, slice_get, subst, sym}
use Rattle.ly_pack.specs.Machine.{reduce}
use Rattle.ly_pack.specs.Steady.{ReducesTo, here}
use Rattle.ly_pack.specs.Values.{action_from}
use Rattle.ly_pack.proofs.Runs.{one_more}
use Rattle.ly_pack.proofs.LegalLemmas.{legal_reduction}
use Rattle.ly_loop.specs.Private.Run.{MakesReduction, stack_of}
use Rattle.ly_loop.proofs.RunLemmas.{ended, ends_by, move_by, passed}
use Rattle.ly_loop.proofs.run.ends_within.Goals as goal

pub loop-made-init : goal.loop-made-init
loop-made-init g c = record { led = here; states = c.requires.states }

pub returns-in_default-action : goal.returns-in_default-action
returns-in_default-action g c =
    let m = c.args.machine.now in
    let t = c.args.token.0 in
    let xs = c.loop-made.stack.items in
    let step = move_by m t xs c.in-Some.field-0.now (action_from c.action.result)
    (c.in-Some.ensures.value ∙ ap (λ w. slice_get w (length w - 1)) c.deref.ensures.value) c.action.ensures in
    let stop = ends_by m (stack_of xs) c.action.result c.in_default-action.not-Reduce in
    ended m t (stack_of c.args.stack.now.items) (stack_of xs) c.loop-made._made c.args.bound c.loop-made.invariant.led
    (omega arith) (stop.0, step ∙ stop.1)

pub reduce-requires-clause-rule : goal.reduce-requires-clause-rule
reduce-requires-clause-rule g c = legal_reduction c.args.machine.now c.in-Some.field-0.now.0 c.args.token.0
    c.in-Reduce.rule.0 c.requires.countable.machine (sym c.in-Reduce.ensures)

pub returns-then-not-branch : goal.returns-then-not-branch
returns-then-not-branch g c =
    let m = c.args.machine.now in
    let t = c.args.token.0 in
    let xs = c.loop-made.stack.items in
    let step = move_by m t xs c.in-Some.field-0.now (reduce c.in-Reduce.rule.0)
    (c.in-Some.ensures.value ∙ ap (λ w. slice_get w (length w - 1)) c.deref.ensures.value) c.in-Reduce.ensures in
    let stop = subst (λ b. MakesReduction m c.in-Reduce.rule.0 (stack_of xs) b (stack_of c.reduce.new.stack.items))
    c.if-not-branch.true c.in_ok-reduce.ensures.made in
    ended m t (stack_of c.args.stack.now.items) (stack_of xs) c.loop-made._made c.args.bound c.loop-made.invariant.led
    (omega arith) (stop.0, step ∙ stop.1)

pub loop-made-preserved : goal.loop-made-preserved
loop-made-preserved g c =
    let m = c.args.machine.now in
    let t = c.args.token.0 in
    let xs = c.loop-made.stack.items in
    let next = stack_of c.reduce.new.stack.items in
    let step = move_by m t xs c.in-Some.field-0.now (reduce c.in-Reduce.rule.0)
    (c.in-Some.ensures.value ∙ ap (λ w. slice_get w (length w - 1)) c.deref.ensures.value) c.in-Reduce.ensures in
    let on = subst (λ b. MakesReduction m c.in-Reduce.rule.0 (stack_of xs) b next)
    c.if-not-branch.false c.in_ok-reduce.ensures.made in
    record {
      led = subst (λ n. ReducesTo m t (stack_of c.args.stack.now.items) n next) (omega arith)
          (one_more c.loop-made.invariant.led (step ∙ on));
      states = c.in_ok-reduce.ensures.states;
    }

pub returns : goal.returns
returns g c = passed c.args.machine.now c.args.token.0 (stack_of c.args.stack.now.items)
    (stack_of c.loop-made.stack.items) c.loop-made._made c.args.bound c.loop-made.invariant.led (omega arith)
