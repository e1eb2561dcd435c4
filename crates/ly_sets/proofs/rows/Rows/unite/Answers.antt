use Rattle.std.proofs.Common.{◌∙◌, ap, sym, set}
use Rattle.ly_sets.specs.SetMatrix.{row}
use Rattle.ly_sets.specs.Rows.{sets_of}
use Rattle.ly_sets.proofs.MatrixLemmas.{union-comm_nat}
use Rattle.ly_sets.proofs.rows.Rows.unite.Goals as goal

pub returns-then-holds-2-clause-united : goal.returns-then-holds-2-clause-united
returns-then-holds-2-clause-united c =
    let ss = sets_of c.args.self.now in
    c.share.ensures.sets
    ∙ ap (λ s. set ss c.args.i s) (sym (union-comm_nat (row ss c.args.i) (row ss c.args.j)
    ∙ c.holds-then-is_shared.ensures.0 c.if-holds-2.true))
