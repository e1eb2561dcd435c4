use Rattle.std.proofs.Common.{◌∙◌, ap, sym}
use Rattle.ly_places.proofs.PlacingLemmas.{parts_made}
use Rattle.ly_places.proofs.parsing.parts_by.Goals as goal

pub returns : goal.returns
returns c =
    let x = c.args.derivation in
    let rules = sym c.rules.ensures ∙ ap (λ m. m.rules) c.machine-machine.ensures.machine in
    parts_made c.parts_of.result (λ parts. parts.items) x.forest x.root _ x.tokens.items _ c.args.set.now.rules
    c.deref.ensures.value rules c.parts_of.ensures
