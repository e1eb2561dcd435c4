use Rattle.ly_counterexamples.proofs.OpeningLemmas.{rival_settled, rival_there, rival_whole}
use Rattle.ly_counterexamples.proofs.example.Examples.rival.Goals as goal

pub whole-requires : goal.whole-requires
whole-requires c = rival_there c.args.self.now c.spec-spec.ensures.resolved c.args.conflict.now c.requires
    c.in-ReduceReduce-Reduce.rule c.in-ReduceReduce-Reduce.is-0 c.in-ReduceReduce-Reduce.is-1

pub returns-in-ReduceReduce-Reduce : goal.returns-in-ReduceReduce-Reduce
returns-in-ReduceReduce-Reduce c = rival_whole c.args.self.now c.spec-spec.ensures.resolved c.args.conflict.now
    c.requires c.in-ReduceReduce-Reduce.rule c.whole.result c.in-ReduceReduce-Reduce.is-0
    c.in-ReduceReduce-Reduce.is-1 c.whole.ensures.rule c.whole.ensures.end

pub returns-in_default : goal.returns-in_default
returns-in_default c = rival_settled c.args.self.now c.spec-spec.ensures.resolved c.args.conflict.now c.requires
    (λ _ p e. c.in_default.not-Reduce-1 p e)

pub returns-in_default-2 : goal.returns-in_default-2
returns-in_default-2 c = rival_settled c.args.self.now c.spec-spec.ensures.resolved c.args.conflict.now c.requires
    (λ both p e. let other = c.in_default.is-0 in cc)
