use Rattle.std.proofs.Common.{ap, sym, ◌∙◌}
use Rattle.ly_ere.specs.Names.{defined}
use Rattle.ly_ere.proofs.NameLemmas.{defined_zip}
use Rattle.ly_ere.proofs.names.Names.definitions.Goals as goal

pub returns-clause-these : goal.returns-clause-these
returns-clause-these c = c.deref.ensures.value
    ∙ (sym (defined_zip (λ k. k.items) c.self.inside.names.items _ c.self.invariant.0) ∙ ap defined c.self.view_is)
