use Rattle.ly_conflicts.proofs.KeyLemmas.{found}
use Rattle.ly_conflicts.proofs.common.Keys.find.Goals as goal

pub returns : goal.returns
returns c = rw (← c.self.view_is)
    (found c.self.inside.keys.keys c.args.key c.get_index_of.result c.get_index_of.ensures.index
    c.get_index_of.ensures.found)
