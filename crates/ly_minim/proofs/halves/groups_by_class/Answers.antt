use Rattle.std.proofs.Common.{arith, sym, subst}
use Rattle.std.specs.Prelude.{All}
use Rattle.std.proofs.lemmas.List.Elements.{All-push}
use Rattle.ly_minim.specs.Private.Halves.{IsByClass}
use Rattle.ly_minim.proofs.halves.groups_by_class.Goals as goal

pub loop-class-preserved : goal.loop-class-preserved
loop-class-preserved c = subst (λ gs. All (IsByClass c.args.dfa.now) gs) (sym c.in_ok-push.ensures.items)
    (All-push (IsByClass c.args.dfa.now) c.loop-class.by_class.items c.in_ok-groups_of_class.field-0
    c.loop-class.invariant (c.loop-class.class, omega arith, c.in_ok-groups_of_class.ensures))
