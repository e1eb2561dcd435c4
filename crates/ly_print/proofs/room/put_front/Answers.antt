use Rattle.std.proofs.Common.{◌∙◌, ◌++◌, ap, take}
use Rattle.ly_print.proofs.room.put_front.Goals as goal

pub returns-clause-bytes : goal.returns-clause-bytes
returns-clause-bytes c =
    c.put_front_of.ensures.bytes
    ∙ ap (λ n. take c.args.at c.args.room.now ++ take n c.in-Some.block.now) c.len.ensures
    ∙ ap (λ t. take c.args.at c.args.room.now ++ t) c.in-Some.ensures.front
