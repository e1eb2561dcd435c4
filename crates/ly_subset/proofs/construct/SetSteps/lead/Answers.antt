use Rattle.ly_subset.proofs.ChainLemmas.{led_none}
use Rattle.ly_subset.proofs.FoundLemmas.{on_ok_one}
use Rattle.ly_subset.specs.Private.Members.{listed}
use Rattle.ly_subset.proofs.construct.SetSteps.lead.Goals as goal

pub returns-in_default-clause-led : goal.returns-in_default-clause-led
returns-in_default-clause-led c = on_ok_one c.enter_none.result c.enter_none.ensures.entered
    (led_none c.args.self.nfa.now (listed c.args.from.now) c.args.byte c.args.found.now c.enter_none.new.self
    c.in_default.ensures)
