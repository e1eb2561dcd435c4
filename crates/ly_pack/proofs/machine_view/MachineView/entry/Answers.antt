use Rattle.std.proofs.Common.{◌∙◌, ap, sym}
use Rattle.std.specs.Prelude.{option_map}
use Rattle.ly_pack.specs.Values.{action_from}
use Rattle.ly_pack.proofs.GridLemmas.{entry_at-machine}
use Rattle.ly_pack.proofs.machine_view.MachineView.entry.Goals as goal

pub returns : goal.returns
returns g c = ap (option_map action_from) c.entry.ensures
    ∙ sym (entry_at-machine c.args.self.now _ _ _ _ _ _ c.self.view_is c.args.state.0 c.args.terminal.0 c.requires.state
    c.requires.terminal)
