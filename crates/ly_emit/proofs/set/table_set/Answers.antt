use Rattle.std.proofs.Common.{subst, sym}
use Rattle.ly_base.specs.declared.version.Version.TheVariants.{V2}
use Rattle.ly_pack.specs.Steady.{IsSteady}
use Rattle.ly_emit.proofs.set.table_set.Goals as goal

pub new-requires-clause-steady : goal.new-requires-clause-steady
new-requires-clause-steady c = subst IsSteady (sym c.in_ok-parts.ensures.same) c.requires.steady

pub new-requires-clause-within : goal.new-requires-clause-within
new-requires-clause-within c =
    let given = c.requires.fits in
    c.in_ok-parts.ensures.within V2 given.0 given.1 given.2
