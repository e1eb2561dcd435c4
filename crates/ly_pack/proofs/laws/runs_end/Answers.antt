use Rattle.ly_pack.proofs.Runs.{leaving, reduces_above, reductions_fall, runs_above_end, runs_end}
use Rattle.ly_pack.proofs.laws.runs_end.Goals as goal

pub returns-clause-alike : goal.returns-clause-alike
returns-clause-alike c = λ m t n stack last more l. reduces_above m t more l

pub returns-clause-leaves : goal.returns-clause-leaves
returns-clause-leaves c = leaving

pub returns-clause-above : goal.returns-clause-above
returns-clause-above c = runs_above_end

pub returns-clause-all : goal.returns-clause-all
returns-clause-all c = runs_end

pub returns-clause-falls : goal.returns-clause-falls
returns-clause-falls c = reductions_fall
