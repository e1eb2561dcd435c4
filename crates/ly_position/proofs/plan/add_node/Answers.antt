use Rattle.std.proofs.Common.{ap, length}
use Rattle.ly_position.specs.Private.Plain.{expression_at, listed}
use Rattle.ly_position.proofs.PlainLemmas.{makes_same}
use Rattle.ly_position.proofs.PlanLemmas.{listed_within}
use Rattle.ly_position.proofs.plan.add_node.Goals as goal

pub returns-in-Name : goal.returns-in-Name
returns-in-Name c =
    let es = c.args.plain.now in
    let names = c.args.names.now in
    rw c.in-Name.is (makes_same es c.named.result (listed es names c.in-Name.number)
    (rw c.named.ensures (listed_within (length es) names c.in-Name.number c.requires.names))
    (ap (expression_at es) c.named.ensures))
