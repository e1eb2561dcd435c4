use Rattle.std.proofs.Common.{rules}
use Rattle.ly_engine.proofs.generating.build.Goals as goal

pub returns-clause-built : goal.returns-clause-built
returns-clause-built c =
    let made = c.in_ok-generated.generated in
    let given = c.in_ok-generated.ensures.generated in
    (made.set, given.0, search rules, given.1, given.2)

pub written-tables-requires : goal.written-tables-requires
written-tables-requires c = c.in_ok-generated.ensures.generated.0.generated.within
