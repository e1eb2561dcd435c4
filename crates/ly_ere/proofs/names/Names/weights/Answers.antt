use Rattle.std.proofs.Common.{ap}
use Rattle.ly_ere.specs.Names.{defined}
use Rattle.ly_ere.proofs.NameLemmas.{defined_zip}
use Rattle.ly_ere.proofs.names.Names.weights.Goals as goal

pub returns : goal.returns
returns c = rw (
  c.deref.ensures.value,
  ← ap defined c.self.view_is,
  defined_zip
      (λ k. k.items) c.self.inside.names.items _ c.self.invariant.0,
)
    c.self.invariant.2
