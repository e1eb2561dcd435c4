use Rattle.std.proofs.Common.{◌≡◌, ◌∙◌, ◌-◌, ap, length, subst, sym}
use Rattle.std.specs.Prelude.{Some, slice_get}
use Rattle.ly_parse.proofs.StackLemmas.{accepted_paid, accepts}
use Rattle.ly_tree.specs.Forest.{StandsFor}
use Rattle.ly_parse.proofs.running.Running.accept.Goals as goal

pub returns-in-Some-clause-accepted : goal.returns-in-Some-clause-accepted
returns-in-Some-clause-accepted g c =
    let top : slice_get c.self.inside.stack.items (length c.self.inside.stack.items - 1) ≡ Some c.in-Some.level.now
    = ap (λ w. slice_get w (length w - 1)) (sym c.deref.ensures.value) ∙ sym c.in-Some.ensures.value in
    accepts c.self.inside.machine c.self.inside.forest c.self.inside.stack.items c.in-Some.level.now
    c.args.self.now c.self.inside.count c.self.inside.over c.self.view_is c.self.invariant.0 top

pub returns-in-Some-clause-paid : goal.returns-in-Some-clause-paid
returns-in-Some-clause-paid g c root t is stands =
    let top : slice_get c.self.inside.stack.items (length c.self.inside.stack.items - 1) ≡ Some c.in-Some.level.now
    = ap (λ w. slice_get w (length w - 1)) (sym c.deref.ensures.value) ∙ sym c.in-Some.ensures.value in
    let same : root ≡ c.in-Some.level.now.term = cc in
    accepted_paid c.self.inside.machine c.self.inside.forest c.self.inside.stack.items c.in-Some.level.now
    c.args.self.now c.self.inside.count c.self.inside.over t c.self.view_is c.self.invariant.0 top
    (subst (λ r. StandsFor c.args.self.now.forest r t) same stands)
