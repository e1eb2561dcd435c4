use Rattle.std.proofs.Common.{◌<◌, ◌≤◌, ◌*◌, ap, sym, subst, length}
use Rattle.std.specs.FinSet as set
use Rattle.ly_sets.specs.NumberSet.{AllBelow}
use Rattle.ly_sets.specs.SetMatrix.{row}
use Rattle.ly_sets.specs.Rows.{sets_of}
use Rattle.ly_sets.proofs.MatrixLemmas.{AllBelow-insert, AllBelow-set}
use Rattle.ly_sets.proofs.set_matrix.SetMatrix.insert.Goals as goal

pub invariant_of-self-2 : goal.invariant_of-self-2
invariant_of-self-2 c =
    let width = c.self.inside.width in
    let ss = sets_of c.self.inside.rows in
    let bounds = c.self.invariant.bounds in
    let lt : c.args.i < length ss = subst (λ xs. c.args.i < length xs) (sym (ap (λ m. m.sets) c.self.view_is))
    c.requires.row in
    let below : c.args.symbol.0 < width = subst (λ w. c.args.symbol.0 < w) (sym (ap (λ m. m.width) c.self.view_is))
    c.requires.below in
    record {
      laid = c.in_ok-insert.ensures.laid;
      room = subst (λ s. width ≤ 64 * s) (sym c.in_ok-insert.ensures.stride) c.self.invariant.room;
      bounds = λ k. subst (λ xs. AllBelow width (row xs k)) (sym c.in_ok-insert.ensures.ok)
          (AllBelow-set width ss c.args.i (set.insert (row ss c.args.i) c.args.symbol.0) bounds
          (AllBelow-insert width c.args.symbol.0 (row ss c.args.i) (bounds c.args.i) below) lt k);
    }
