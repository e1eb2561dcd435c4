use Rattle.std.proofs.Common.{◌≡◌, ◌∙◌, ◌-◌, ◌++◌, ◌∷◌, [], ap, ap₂, arith, length, slice_set}
use Rattle.ly_relate.specs.Private.Pieces.{elements_of}
use Rattle.ly_relate.proofs.PieceLemmas.{moved_behind}
use Rattle.ly_relate.proofs.pieces.make_room.Goals as goal

pub returns-in_ok-push-clause-elements : goal.returns-in_ok-push-clause-elements
returns-in_ok-push-clause-elements g c =
    let n = c.len-place.result in
    let none = c.in_ok-with_capacity.field-0 in
    let pushed = c.push.new.self.items in
    let ok = c.push.new.self.ok.0 in
    let len = c.len-place.ensures in
    let count : n ≡ length pushed = omega (arith, ok, len) in
    ap₂ (λ v w. elements_of (slice_set pushed (n - 1) v) w.items) c.swap.ensures.x_after c.swap.ensures.y_after
    ∙ moved_behind c.args.full.now.items pushed c.args.last.now none c.index_mut.result.now n
    c.in_ok-with_capacity.ensures.items c.in_ok-push.ensures.items count c.index_mut.ensures.value
