use Rattle.std.proofs.Common.{subst}
use Rattle.ly_pack.specs.Steady.{IsSteady}
use Rattle.ly_emit.proofs.steady_tables.steady_machine.Goals as goal

pub returns-clause-steady : goal.returns-clause-steady
returns-clause-steady c = subst IsSteady c.view.ensures c.in_ok-steady.ensures.ok
