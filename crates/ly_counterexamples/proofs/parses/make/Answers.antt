use Rattle.ly_counterexamples.proofs.parses.make.Goals as goal

pub returns-in-Reduce : goal.returns-in-Reduce
returns-in-Reduce c = rw c.in-Reduce.is c.reduce_by.ensures
