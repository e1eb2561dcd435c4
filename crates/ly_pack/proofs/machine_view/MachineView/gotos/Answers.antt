use Rattle.std.proofs.Common.{◌∙◌, ap}
use Rattle.ly_pack.proofs.GridLemmas.{gotos-machine, states-machine}
use Rattle.ly_pack.proofs.machine_view.MachineView.gotos.Goals as goal

pub returns-clause-entries : goal.returns-clause-entries
returns-clause-entries g c = gotos-machine c.args.self.now _ _ _ _ _ _ c.self.view_is

pub returns-clause-rows : goal.returns-clause-rows
returns-clause-rows g c = c.self.invariant.1.gotos ∙ states-machine c.args.self.now _ _ _ _ _ _ c.self.view_is

pub returns-clause-width : goal.returns-clause-width
returns-clause-width g c = c.self.invariant.1.gotos_wide ∙ ap (λ m. m.nonterminals) c.self.view_is
