use Rattle.ly_parse.proofs.PassLemmas.{state_at}
use Rattle.ly_parse.proofs.running.Running.top_at.Goals as goal

pub returns-in-Some-clause-top : goal.returns-in-Some-clause-top
returns-in-Some-clause-top g c =
    state_at c.self.inside.machine c.self.inside.forest c.self.inside.stack.items c.args.self.now
    c.self.inside.count c.self.inside.over c.args.height c.in-Some.place c.index.result.now c.self.view_is
    c.requires c.in-Some.ensures c.index.ensures
