use Rattle.std.proofs.Common.{◌∙◌, ap₂, set}
use Rattle.std.proofs.lemmas.List.{map-set}
use Rattle.ly_base.specs.Entry.{target_of}
use Rattle.ly_minim.proofs.links.Links.set.Goals as goal

pub returns : goal.returns
returns c = map-set target_of c.self.inside.entries.items c.args.place c.to.result
    ∙ ap₂ (λ xs o. set xs c.args.place o) c.self.view_is c.to.ensures
