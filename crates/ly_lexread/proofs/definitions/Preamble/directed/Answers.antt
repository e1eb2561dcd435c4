use Rattle.std.proofs.lemmas.Result.{err_from_is_err_and}
use Rattle.ly_lexread.proofs.definitions.Preamble.directed.Goals as goal

pub returns-in_err-conditions-clause-these : goal.returns-in_err-conditions-clause-these
returns-in_err-conditions-clause-these c =
    let p = err_from_is_err_and c.from_residual.result c.from_residual.ensures.1 in
    let e = c.in_err-conditions.ensures.these in
    rw (p.1, p.2) (e.0, λ ne q h. e.1 ne q.conditions h.1)
