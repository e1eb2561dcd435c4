use Rattle.std.proofs.Common.{◌∙◌, ap}
use Rattle.std.specs.FinSet as set
use Rattle.ly_sets.proofs.MatrixLemmas.{row_at}
use Rattle.ly_sets.proofs.rows.Rows.contains.Goals as goal

pub returns : goal.returns
returns c = c.contains_bit.ensures
    ∙ ap (λ s. set.contains s c.args.number)
    (row_at c.args.self.now.stride c.start.result c.args.self.now.words.items c.deref.result.now
    c.args.self.now.stored.items c.args.i c.requires.row c.start.ensures.value c.deref.ensures.value)
