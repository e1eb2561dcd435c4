use Rattle.ly_sets.proofs.RowLemmas.{row_set-insert}
use Rattle.ly_sets.proofs.bits.insert_bit.Goals as goal

pub returns-clause-added : goal.returns-clause-added
returns-clause-added c
    = row_set-insert c.args.words.now c.args.start c.args.len c.args.number c.requires.inside c.requires.below
