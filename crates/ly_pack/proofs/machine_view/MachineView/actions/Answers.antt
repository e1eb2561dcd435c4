use Rattle.std.proofs.Common.{◌∙◌, ap}
use Rattle.ly_pack.proofs.GridLemmas.{actions-machine, states-machine}
use Rattle.ly_pack.proofs.machine_view.MachineView.actions.Goals as goal

pub returns-clause-entries : goal.returns-clause-entries
returns-clause-entries g c = actions-machine c.args.self.now _ _ _ _ _ _ c.self.view_is

pub returns-clause-rows : goal.returns-clause-rows
returns-clause-rows g c = c.self.invariant.1.actions ∙ states-machine c.args.self.now _ _ _ _ _ _ c.self.view_is

pub returns-clause-width : goal.returns-clause-width
returns-clause-width g c = c.self.invariant.1.actions_wide ∙ ap (λ m. m.terminals) c.self.view_is
