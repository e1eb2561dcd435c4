use Rattle.std.proofs.Common.{ap, ap₂, sym, slice_get}
use Rattle.ly_pack.specs.Machine.{or_default}
use Rattle.ly_pack.proofs.machine_view.MachineView.action.Goals as goal

pub returns-in-Some : goal.returns-in-Some
returns-in-Some g c = ap (λ a. or_default a (slice_get c.args.self.now.defaults c.args.state.0)) c.in-Some.ensures

pub returns-in-Some-default : goal.returns-in-Some-default
returns-in-Some-default g c = ap₂ or_default c.in_default.ensures (sym c.in-Some-default.ensures)

pub returns-in-None : goal.returns-in-None
returns-in-None g c = ap₂ or_default c.in_default.ensures (sym c.in-None.ensures)
