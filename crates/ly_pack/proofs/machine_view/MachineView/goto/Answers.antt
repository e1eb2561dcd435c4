use Rattle.std.proofs.Common.{◌∙◌, ap, sym}
use Rattle.std.specs.Prelude.{option_map}
use Rattle.ly_base.specs.declared.numbers.StateNo.{StateNo}
use Rattle.ly_pack.proofs.GridLemmas.{goto_at-machine}
use Rattle.ly_pack.proofs.machine_view.MachineView.goto.Goals as goal

pub returns : goal.returns
returns g c = ap (option_map (λ (s : StateNo). s.0)) c.entry.ensures
    ∙ sym (goto_at-machine c.args.self.now _ _ _ _ _ _ c.self.view_is c.args.state.0 c.args.left.0 c.requires.state
    c.requires.left)
