use Rattle.std.proofs.Common.{◌∙◌, ap, sym}
use Rattle.ly_places.proofs.DerivationLemmas.{short_bodies}
use Rattle.ly_places.proofs.keeping_parser.rules_of.Goals as goal

pub keeping_rules-requires : goal.keeping_rules-requires
keeping_rules-requires c = short_bodies c.rules.result.now c.args.set.now.rules
    (sym c.rules.ensures ∙ ap (λ m. m.rules) c.machine.ensures.machine) c.machine.ensures.within.rules
