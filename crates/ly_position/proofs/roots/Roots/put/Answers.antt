use Rattle.ly_position.proofs.PickedLemmas.{picked_put}
use Rattle.ly_position.proofs.roots.Roots.put.Goals as goal

pub returns : goal.returns
returns c =
    picked_put c.self.inside.lists c.longer.new.self c.args.self.now c.self.inside.numbers.items c.args.number
    c.index.result.now c.in_ok-longer.longer c.args.entry c.self.view_is c.self.invariant c.in_ok-longer.ensures.kept
    c.requires c.index.ensures c.in_ok-longer.ensures.list
