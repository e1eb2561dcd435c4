use Rattle.std.proofs.Common.{length, ap, arith}
use Rattle.ly_position.proofs.ListsLemmas.{length-lists_from}
use Rattle.ly_position.proofs.lists.Lists.len.Goals as goal

pub returns : goal.returns
returns c =
    let count = length-lists_from 0 c.self.inside.ends.items c.self.inside.members.items in
    let same = ap length c.self.view_is in
    omega arith
