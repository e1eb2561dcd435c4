use Rattle.std.proofs.Common.{◌∙◌, arith, length-take, take}
use Rattle.ly_print.proofs.BlockLemmas.{run_in_block}
use Rattle.ly_print.proofs.room.plain_run.Goals as goal

pub returns : goal.returns
returns c = let block = take 16 c.args.bytes.now in
    c.min.ensures ∙ run_in_block block (omega (arith, length-take 16 c.args.bytes.now, c.requires))
