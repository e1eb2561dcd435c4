use Rattle.std.proofs.Common.{arith}
use Rattle.ly_tree.proofs.HeadedLemmas.{pushed_fits, pushed_lists}
use Rattle.ly_tree.proofs.headed.Headed.push.Goals as goal

pub invariant_of-self-2 : goal.invariant_of-self-2
invariant_of-self-2 g c =
    pushed_fits c.self.inside.headings.items c.reserve.new.self.items c.push_reserved.new.self.items
    c.self.inside.members.items c.extend_from_slice.new.self.items c.args.list.now
    (record { head = c.args.head; end = c.len-end.result })
    c.self.invariant c.in_ok-reserve.ensures.items c.push_reserved.ensures.items
    c.in_ok-extend_from_slice.ensures.items (omega arith)

pub returns-clause-ok : goal.returns-clause-ok
returns-clause-ok g c =
    pushed_lists c.self.inside.headings.items c.reserve.new.self.items c.push_reserved.new.self.items
    c.self.inside.members.items c.extend_from_slice.new.self.items c.args.list.now
    (record { head = c.args.head; end = c.len-end.result })
    c.args.self.now c.self.invariant c.self.view_is c.in_ok-reserve.ensures.items c.push_reserved.ensures.items
    c.in_ok-extend_from_slice.ensures.items (omega arith)
