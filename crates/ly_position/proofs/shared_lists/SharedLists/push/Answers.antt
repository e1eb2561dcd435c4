use Rattle.ly_position.proofs.PickedLemmas.{picked_last}
use Rattle.ly_position.proofs.shared_lists.SharedLists.push.Goals as goal

pub returns : goal.returns
returns c =
    rw c.in_ok-push-2.ensures.items
    (picked_last c.self.inside.kept c.push.new.self c.args.self.now c.self.inside.numbers.items c.len-number.result
    c.args.list.now c.self.view_is c.self.invariant c.in_ok-push.ensures.ok c.len-number.ensures)
