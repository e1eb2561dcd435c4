use Rattle.std.proofs.Common.{ap}
use Rattle.ly_ere.specs.Names.{defined}
use Rattle.ly_ere.proofs.NameLemmas.{defined_zip}
use Rattle.ly_ere.proofs.names.Names.lengths.Goals as goal

pub returns : goal.returns
returns c = rw (
  c.deref.ensures.value,
  ← ap defined c.self.view_is,
  defined_zip (λ k. k.items) c.self.inside.names.items c.self.inside.definitions.items c.self.invariant.0,
) c.self.invariant.3
