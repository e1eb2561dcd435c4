use Rattle.std.proofs.Common.{◌∙◌}
use Rattle.ly_resolve.specs.declared.conflict.ConflictKind.TheVariants.{ReduceReduce, ShiftReduce}
use Rattle.ly_report.proofs.ConflictLemmas.{kinds_counted}
use Rattle.ly_report.proofs.counts.ConflictCounts.among.Goals as goal

pub returns-clause-shifts : goal.returns-clause-shifts
returns-clause-shifts c = c.count.ensures ∙ kinds_counted ShiftReduce c.args.conflicts.now

pub returns-clause-reductions : goal.returns-clause-reductions
returns-clause-reductions c = c.count-2.ensures ∙ kinds_counted ReduceReduce c.args.conflicts.now
