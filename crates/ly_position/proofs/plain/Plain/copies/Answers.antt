use Rattle.std.proofs.Common.{◌+◌, ap, ap₂, add-one, sym, ◌∙◌}
use Rattle.ly_position.specs.Private.Plain.{expression_at}
use Rattle.ly_position.specs.Private.Slim.{slim_concat, slim_copies}
use Rattle.ly_position.proofs.PlainLemmas.{makes_trans, part_grown}
use Rattle.ly_position.proofs.plain.Plain.copies.Goals as goal

pub loop-preserved : goal.loop-preserved
loop-preserved c =
    let before = c.loop.invariant in
    let P = expression_at c.args.self.now c.args.part in
    let Q = expression_at c.args.self.now c.args.last in
    makes_trans c.args.self.now c.loop.self c.concat.new.self c.loop.all c.in_ok-all.all
    (slim_copies c.loop.counter P Q)
    (slim_concat (expression_at c.loop.self c.args.part) (expression_at c.loop.self c.loop.all))
    (slim_copies (c.loop.counter + 1) P Q) before c.in_ok-all.ensures
    (ap₂ slim_concat (part_grown c.args.self.now c.loop.self before.rest c.args.part before.grown c.requires.part)
    before.is ∙ sym (ap (λ n. slim_copies n P Q) (add-one c.loop.counter)))
