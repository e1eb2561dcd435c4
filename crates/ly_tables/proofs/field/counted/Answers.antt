use Rattle.ly_tables.proofs.BeginningLemmas.{copies, begun_first, stopped}
use Rattle.ly_tables.specs.Ranges.{width_of}
use Rattle.ly_tables.proofs.field.counted.Goals as goal

pub returns-in_err-count-clause-truncated : goal.returns-in_err-count-clause-truncated
returns-in_err-count-clause-truncated g c =
    let w = width_of c.args.version in
    let some = g.met.F.Field.some_part w in
    stopped c.from_residual.result c.in_err-count.field-0.0 c.from_residual.ensures.1 c.in_err-count.ensures.truncated
    (begun_first (λ n fit. copies (g.F.Field.part w) n some.0 some.1))
