use Rattle.std.proofs.Common.{◌≡◌, length, arith}
use Rattle.ly_position.proofs.ListsLemmas.{pushed_fits, pushed_lists}
use Rattle.ly_position.proofs.lists.Lists.push.Goals as goal

pub invariant_of-self-in-Ok : goal.invariant_of-self-in-Ok
invariant_of-self-in-Ok c =
    let count : length c.extend_from_slice.new.self.items ≡ c.len-end.result = omega arith in
    pushed_fits c.self.inside.ends.items c.self.inside.members.items c.args.list.now c.push.new.self.items
    c.extend_from_slice.new.self.items c.len-end.result
    c.self.invariant c.in_ok-extend_from_slice.ensures.items c.in-Ok.ensures.items count

pub returns-in-Ok-clause-ok : goal.returns-in-Ok-clause-ok
returns-in-Ok-clause-ok c =
    let count : length c.extend_from_slice.new.self.items ≡ c.len-end.result = omega arith in
    rw (← c.self.view_is)
    (pushed_lists c.self.inside.ends.items c.self.inside.members.items c.args.list.now c.push.new.self.items
    c.extend_from_slice.new.self.items c.len-end.result
    c.self.invariant c.in_ok-extend_from_slice.ensures.items c.in-Ok.ensures.items count)
