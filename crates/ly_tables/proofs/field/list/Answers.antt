use Rattle.std.proofs.Common.{arith, ◌-◌, suc, length}
use Rattle.std.specs.List.{flat_map}
use Rattle.ly_tables.proofs.BeginningLemmas.{begun_repeated, spelled_repeated, stopped}
use Rattle.ly_tables.specs.Ranges.{width_of}
use Rattle.ly_tables.proofs.field.list.Goals as goal

pub returns-in_err-value-clause-truncated : goal.returns-in_err-value-clause-truncated
returns-in_err-value-clause-truncated g c =
    let w = width_of c.args.version in
    let now = c.loop-done.invariant in
    let values = c.loop-done.values.items in
    let row = spelled_repeated (g.F.Field.part w) (g.F.Field.fits w) (g.F.Field.spelled w) (g.met.F.Field.is_part w)
    values now.fit in
    stopped c.from_residual.result c.in_err-value.field-0.0 c.from_residual.ensures.1 c.in_err-value.ensures.truncated
    (begun_repeated (g.F.Field.part w) (length values) (c.args.count - suc (length values)) c.args.count
    (flat_map (g.F.Field.spelled w) values) c.args.left.now c.loop-done.behind.now
    (let few = c.loop-done-test.true in omega (arith, now.count)) row now.apart)
