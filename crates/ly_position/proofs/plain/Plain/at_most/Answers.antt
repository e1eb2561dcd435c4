use Rattle.std.proofs.Common.{◌+◌, ap, ap₂, add-one, sym, ◌∙◌}
use Rattle.ly_position.specs.Private.Plain.{expression_at}
use Rattle.ly_position.specs.Private.Slim.{slim_concat, slim_optional, slim_up_to}
use Rattle.ly_position.proofs.PlainLemmas.{makes_trans, part_grown}
use Rattle.ly_position.proofs.plain.Plain.at_most.Goals as goal

pub loop-preserved : goal.loop-preserved
loop-preserved c =
    let before = c.loop.invariant in
    let P = expression_at c.args.self.now c.args.part in
    let so_far = slim_up_to c.loop.counter P in
    let more = makes_trans c.args.self.now c.loop.self c.concat.new.self c.loop.rest c.in_ok-more.more so_far
    (slim_concat (expression_at c.loop.self c.args.part) (expression_at c.loop.self c.loop.rest))
    (slim_concat P so_far) before c.in_ok-more.ensures
    (ap₂ slim_concat (part_grown c.args.self.now c.loop.self before.rest c.args.part before.grown c.requires)
    before.is) in
    makes_trans c.args.self.now c.concat.new.self c.optional.new.self c.in_ok-more.more c.in_ok-rest-2.rest
    (slim_concat P so_far) (slim_optional (expression_at c.concat.new.self c.in_ok-more.more))
    (slim_up_to (c.loop.counter + 1) P) more c.in_ok-rest-2.ensures
    (ap slim_optional more.is ∙ sym (ap (λ n. slim_up_to n P) (add-one c.loop.counter)))
