use Rattle.std.proofs.lemmas.Result.{on_ok_weaker}
use Rattle.ly_resolve.proofs.meeting.Meeting.push_conflicts.Goals as goal

pub returns-clause-inside : goal.returns-clause-inside
returns-clause-inside c = on_ok_weaker c.push_kind-2.result
    (λ more M state terminal all. more M state terminal (c.in_ok-push_kind.ensures.inside M state terminal all))
    c.push_kind-2.ensures.inside
