use Rattle.std.proofs.Common.{◌≡◌, ◌∙◌, ap, sym, arith, IsTrue, nat_eq}
use Rattle.std.specs.FinSet as set
use Rattle.ly_sets.specs.SetMatrix.{row}
use Rattle.ly_sets.specs.Rows.{sets_of, stored_set}
use Rattle.ly_sets.proofs.MatrixLemmas.{named_read, row-sets_by, union-idem}
use Rattle.ly_sets.proofs.rows.Rows.holds.Goals as goal

pub returns-then-index : goal.returns-then-index
returns-then-index c =
    let r = c.args.self.now in
    let same : row (sets_of r) c.args.i ≡ row (sets_of r) c.args.j =
    row-sets_by r.stride r.words.items r.stored.items c.args.i c.requires.of
    ∙ ap (stored_set r.stride r.words.items) (sym (named_read r.stored.items c.args.i _ c.requires.of c.index.ensures)
    ∙ c.if-index.true ∙ named_read r.stored.items c.args.j _ c.requires.from c.index-2.ensures)
    ∙ sym (row-sets_by r.stride r.words.items r.stored.items c.args.j c.requires.from) in
    let true_is : IsTrue (nat_eq c.index.result.now c.index-2.result.now) = grind (arith, c.if-index.true) in (
      λ _. ap (λ s. set.union (row (sets_of r) c.args.i) s) (sym same) ∙ union-idem (row (sets_of r) c.args.i),
      λ _. true_is,
    )
