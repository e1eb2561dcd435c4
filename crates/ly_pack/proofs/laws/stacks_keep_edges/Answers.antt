use Rattle.ly_pack.proofs.Runs.{bottom_edge, keeps, shifts_keep}
use Rattle.ly_pack.proofs.laws.stacks_keep_edges.Goals as goal

pub returns-clause-reductions : goal.returns-clause-reductions
returns-clause-reductions c = λ m t n stack last h l. keeps m t h l

pub returns-clause-shifts : goal.returns-clause-shifts
returns-clause-shifts c = shifts_keep

pub returns-clause-bottom : goal.returns-clause-bottom
returns-clause-bottom c = bottom_edge
