use Rattle.std.proofs.Common.{◌∙◌, ◌+◌, ap, arith, take}
use Rattle.ly_print.proofs.BlockLemmas.{block_at}
use Rattle.ly_print.proofs.room.put_front_of.Goals as goal

pub returns-clause-bytes : goal.returns-clause-bytes
returns-clause-bytes c =
    ap (take (c.args.at + c.args.count)) c.put_block.ensures
    ∙ block_at c.args.room.now c.args.block.now c.args.at c.args.count (omega (arith, c.requires.block))
    (omega (arith, c.requires.within)) (omega (arith, c.requires.count))
