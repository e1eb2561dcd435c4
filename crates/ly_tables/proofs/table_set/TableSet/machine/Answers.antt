use Rattle.std.proofs.Common.{◌∙◌, ap, subst}
use Rattle.ly_pack.specs.Steady.{IsSteady}
use Rattle.ly_tables.specs.TableSet.{TableSet, machine_of}
use Rattle.ly_tables.proofs.table_set.TableSet.machine.Goals as goal

pub returns-clause-machine : goal.returns-clause-machine
returns-clause-machine c = c.machine.ensures ∙ ap machine_of c.self.view_is

pub returns-clause-steady : goal.returns-clause-steady
returns-clause-steady c = subst (λ (s : TableSet). IsSteady (machine_of s)) c.self.view_is c.self.invariant.1
