use Rattle.std.proofs.Common.{arith}
use Rattle.ly_lr0.proofs.RowLemmas.{count_rows}
use Rattle.ly_lr0.proofs.lr0.Lr0.states.Goals as goal

pub returns-clause-count : goal.returns-clause-count
returns-clause-count c = omega (arith, count_rows c.self.invariant c.self.view_is)

pub returns-clause-few : goal.returns-clause-few
returns-clause-few c = omega (arith, c.self.invariant.few)
