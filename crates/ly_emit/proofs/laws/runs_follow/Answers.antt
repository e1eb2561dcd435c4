use Rattle.ly_emit.proofs.EndLemmas.{runs_end_on_steady}
use Rattle.ly_emit.proofs.RunLemmas.{accepted_follow, refused_follow}
use Rattle.ly_emit.proofs.laws.runs_follow.Goals as goal

pub returns-clause-accepted : goal.returns-clause-accepted
returns-clause-accepted c = accepted_follow

pub returns-clause-refused : goal.returns-clause-refused
returns-clause-refused c = refused_follow

pub returns-clause-ends : goal.returns-clause-ends
returns-clause-ends c = runs_end_on_steady
