use Rattle.ly_emit.proofs.OneLemmas.{endless_excludes_steady, steady_together, tables_are_one}
use Rattle.ly_emit.proofs.laws.tables_are_one.Goals as goal

pub returns-clause-same : goal.returns-clause-same
returns-clause-same c = tables_are_one

pub returns-clause-steady : goal.returns-clause-steady
returns-clause-steady c = steady_together

pub returns-clause-endless : goal.returns-clause-endless
returns-clause-endless c = endless_excludes_steady
