use Rattle.ly_pack.proofs.GridLemmas.{actions-machine, gotos-machine}
use Rattle.ly_pack.proofs.WithinLemmas.{within}
use Rattle.ly_pack.proofs.machine_view.MachineView.states.Goals as goal

pub returns-clause-within : goal.returns-clause-within
returns-clause-within g c = within c.args.self.now _ _ (actions-machine c.args.self.now _ _ _ _ _ _ c.self.view_is)
    (gotos-machine c.args.self.now _ _ _ _ _ _ c.self.view_is)
