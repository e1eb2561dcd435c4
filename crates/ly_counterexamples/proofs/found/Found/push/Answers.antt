use Rattle.std.proofs.Common.{◌∙◌, ◌++◌, [], ◌∷◌, ap, subst, sym, Contains}
use Rattle.ly_counterexamples.proofs.FoundLemmas.{pushed, pushed_apart}
use Rattle.ly_counterexamples.proofs.found.Found.push.Goals as goal

pub returns : goal.returns
returns c = c.in_ok-insert.ensures.keys
    ∙ pushed c.self.inside.demands.keys c.args.demand
    (subst (λ ds. Contains ds c.args.demand → ⊥) (sym c.self.view_is) c.requires)
    ∙ ap (λ ds. ds ++ c.args.demand ∷ []) c.self.view_is

pub invariant_of-self-2 : goal.invariant_of-self-2
invariant_of-self-2 c =
    let absent = subst (λ ds. Contains ds c.args.demand → ⊥) (sym c.self.view_is) c.requires in
    pushed_apart c.self.inside.demands.keys c.insert.new.self.keys c.args.demand absent
    (c.in_ok-insert.ensures.keys ∙ pushed c.self.inside.demands.keys c.args.demand absent) c.self.invariant
