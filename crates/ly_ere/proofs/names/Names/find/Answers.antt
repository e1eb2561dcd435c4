use Rattle.std.proofs.Common.{ap, ◌∙◌}
use Rattle.ly_ere.specs.Names.{number_of}
use Rattle.ly_ere.proofs.names.Names.find.Goals as goal

pub returns : goal.returns
returns c = c.copied.ensures ∙ (c.get.ensures.value
    ∙ (c.self.invariant.4 c.args.name.now ∙ ap (λ ns. number_of ns c.args.name.now) c.self.view_is))
