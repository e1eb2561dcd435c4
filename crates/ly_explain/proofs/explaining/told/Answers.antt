use Rattle.std.proofs.Common.{IfOk, subst}
use Rattle.ly_join.specs.Joined.{Spec}
use Rattle.ly_explain.specs.Findings.{AreFoundIn}
use Rattle.ly_explain.proofs.explaining.told.Goals as goal

pub returns-clause-found : goal.returns-clause-found
returns-clause-found c =
    subst (λ (s : Spec). IfOk c.survey.result (AreFoundIn s)) c.requires.same c.survey.ensures.found
