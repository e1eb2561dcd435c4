use Rattle.ly_subset.proofs.SetLemmas.{found_list}
use Rattle.ly_subset.proofs.sets.Sets.find.Goals as goal

pub returns : goal.returns
returns c = rw (← c.self.view_is)
    (found_list c.self.inside.rows c.args.row.now c.find.result c.self.invariant c.requires c.find.ensures)
