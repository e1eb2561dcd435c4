use Rattle.std.proofs.Common.{ap, get_or, []}
use Rattle.ly_position.proofs.PickedLemmas.{picked_empty}
use Rattle.ly_position.proofs.roots.Roots.new.Goals as goal

pub returns-clause-empty : goal.returns-clause-empty
returns-clause-empty c =
    let zeros = c.in_ok-numbers.ensures.items_if_clones_equal (λ y h. h) in
    λ k. rw zeros (picked_empty c.in_ok-lists.lists _ k (ap (λ ls. get_or ls 0 []) c.in_ok-lists.ensures))
