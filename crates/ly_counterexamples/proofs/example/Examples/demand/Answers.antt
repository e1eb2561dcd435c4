use Rattle.std.proofs.Common.{subst}
use Rattle.ly_lr0.specs.Automaton.{IsLr0Automaton}
use Rattle.ly_counterexamples.proofs.OpeningLemmas.{opens, rule_there}
use Rattle.ly_counterexamples.proofs.example.Examples.demand.Goals as goal

pub whole-requires : goal.whole-requires
whole-requires c =
    rule_there c.args.self.now c.spec-spec.ensures.resolved c.args.conflict.now c.requires.conflict

pub returns-clause-opens : goal.returns-clause-opens
returns-clause-opens c = opens c.args.self.now c.spec-spec.ensures.resolved c.args.conflict.now c.requires.conflict
    (subst (λ v. IsLr0Automaton v.automaton) c.self.view_is
    (subst IsLr0Automaton c.self.invariant.1 c.self.invariant.0.lawful))
    c.requires.inside.state c.whole.result c.rival.result c.whole.ensures.rule c.whole.ensures.end
    c.rival.ensures
