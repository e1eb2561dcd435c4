use Rattle.std.proofs.Common.{subst, sym}
use Rattle.ly_loop.specs.Endless.{AreTablesRefused}
use Rattle.ly_pack.specs.Machine.{Machine}
use Rattle.ly_pack.specs.Steady.{IsSteady}
use Rattle.ly_tables.specs.Private.Refused.{IsUnsteady}
use Rattle.ly_tables.specs.TableSet.{machine_of}
use Rattle.ly_tables.specs.Values.{set_of}
use Rattle.ly_tables.specs.declared.fault.TableFault.{TableFault}
use Rattle.ly_tables.proofs.SteadyLemmas.{unsteady}
use Rattle.ly_tables.proofs.steadiness.steady_set.Goals as goal

pub returns-in-Err-clause-refused : goal.returns-in-Err-clause-refused
returns-in-Err-clause-refused c =
    let tables = machine_of (set_of c.args.parts) in
    subst (λ (f : TableFault). IsUnsteady tables f) (sym c.refusal.ensures)
    (unsteady tables c.in-Err.fault
    (subst (λ (m : Machine). AreTablesRefused m c.in-Err.fault) c.machine.ensures c.in-Err.ensures.fault))

pub new-requires-clause-steady : goal.new-requires-clause-steady
new-requires-clause-steady c = subst (λ (m : Machine). IsSteady m) c.machine.ensures c.in_default.ensures.ok
