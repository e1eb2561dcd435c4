use Rattle.ly_print.proofs.BlockLemmas.{told_ascii}
use Rattle.ly_print.proofs.room.is_plain_block.Goals as goal

pub returns-then-text-ge-BLOCK : goal.returns-then-text-ge-BLOCK
returns-then-text-ge-BLOCK c = told_ascii c.text.inside.bytes.now c.args.text.now c.text.inside.count c.plain_run.result
    c.text.view_is c.plain_run.ensures
