use Rattle.ly_parse.proofs.PassLemmas.{top_of_all}
use Rattle.ly_parse.proofs.running.Running.top.Goals as goal

pub returns-clause-top : goal.returns-clause-top
returns-clause-top g c =
    top_of_all c.self.inside.machine c.self.inside.forest c.self.inside.stack c.args.self.now c.self.inside.count
    c.self.inside.over c.len.result c.top_at.result.0 c.self.view_is c.len.ensures c.top_at.ensures.top
