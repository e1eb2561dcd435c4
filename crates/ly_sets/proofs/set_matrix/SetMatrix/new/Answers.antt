use Rattle.std.proofs.Common.{◌∙◌, ap, sym, subst}
use Rattle.ly_sets.specs.NumberSet.{AllBelow}
use Rattle.ly_sets.specs.SetMatrix.{row}
use Rattle.ly_sets.proofs.MatrixLemmas.{AllBelow-empty, row-empty}
use Rattle.ly_sets.proofs.set_matrix.SetMatrix.new.Goals as goal

pub invariant_of-result : goal.invariant_of-result
invariant_of-result c = record {
  laid = c.in_ok-new.ensures.laid;
  room = c.in_ok-new.ensures.room;
  bounds = λ i. subst (λ s. AllBelow c.args.width s)
      (sym (ap (λ ss. row ss i) c.in_ok-new.ensures.sets ∙ row-empty c.args.rows i)) (AllBelow-empty c.args.width);
}
