use Rattle.std.proofs.Common.{Err, ap, refl, subst, sym}
use Rattle.ly_parse.specs.Private.Shortcuts.{Lands}
use Rattle.ly_parse.specs.declared.fault.ParseFault.TheVariants.{FaultyTables}
use Rattle.ly_parse.proofs.SettleLemmas.{same_fault}
use Rattle.ly_parse.proofs.landing.Shortcuts+Landing.land.Goals as goal

pub returns-clause-ok : goal.returns-clause-ok
returns-clause-ok g c = (
  refl,
  subst (Lands c.args.machine.now c.args.from c.in_ok-state.state.0) (sym c.action_there-action.ensures)
      c.in_ok-state.ensures.ok,
)

pub returns-in_err-state-clause-faulty : goal.returns-in_err-state-clause-faulty
returns-in_err-state-clause-faulty g c is =
    c.in_err-state.ensures.faulty (ap Err
    (same_fault c.from_residual.result c.in_err-state.field-0.0 FaultyTables
    c.from_residual.ensures.1 is))
