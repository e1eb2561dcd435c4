use Rattle.std.proofs.Common.{◌<◌, ◌≤◌, ◌*◌, ap, sym, subst, length}
use Rattle.std.specs.FinSet as set
use Rattle.ly_sets.specs.NumberSet.{AllBelow}
use Rattle.ly_sets.specs.SetMatrix.{row}
use Rattle.ly_sets.specs.Rows.{sets_of}
use Rattle.ly_sets.proofs.MatrixLemmas.{AllBelow-union, AllBelow-set}
use Rattle.ly_sets.proofs.set_matrix.SetMatrix.union_row.Goals as goal

pub invariant_of-self-2 : goal.invariant_of-self-2
invariant_of-self-2 c =
    let width = c.self.inside.width in
    let ss = sets_of c.self.inside.rows in
    let bounds = c.self.invariant.bounds in
    let lt : c.args.i < length ss = subst (λ xs. c.args.i < length xs) (sym (ap (λ m. m.sets) c.self.view_is))
    c.requires.to in
    record {
      laid = c.in_ok-grew.ensures.laid;
      room = subst (λ s. width ≤ 64 * s) (sym c.in_ok-grew.ensures.stride) c.self.invariant.room;
      bounds = λ k. subst (λ xs. AllBelow width (row xs k)) (sym c.in_ok-grew.ensures.united)
          (AllBelow-set width ss c.args.i (set.union (row ss c.args.i) (row ss c.args.j)) bounds
          (AllBelow-union width (row ss c.args.i) (row ss c.args.j) (bounds c.args.i) (bounds c.args.j)) lt k);
    }
