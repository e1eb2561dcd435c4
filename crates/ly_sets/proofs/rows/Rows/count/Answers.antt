use Rattle.std.proofs.Common.{◌∙◌, ap, sym, subst}
use Rattle.std.specs.FinSet as set
use Rattle.ly_sets.specs.NumberSet.{AllBelow}
use Rattle.ly_sets.proofs.MatrixLemmas.{row_at}
use Rattle.ly_sets.proofs.rows.Rows.count.Goals as goal

pub count_bits-requires-clause-below : goal.count_bits-requires-clause-below
count_bits-requires-clause-below c = subst (λ s. AllBelow c.args.width s)
    (sym (row_at c.args.self.now.stride c.start.result c.args.self.now.words.items c.deref.result.now
    c.args.self.now.stored.items c.args.i c.requires.row c.start.ensures.value c.deref.ensures.value))
    c.requires.below

pub returns : goal.returns
returns c = c.count_bits.ensures
    ∙ ap set.len
    (row_at c.args.self.now.stride c.start.result c.args.self.now.words.items c.deref.result.now
    c.args.self.now.stored.items c.args.i c.requires.row c.start.ensures.value c.deref.ensures.value)
