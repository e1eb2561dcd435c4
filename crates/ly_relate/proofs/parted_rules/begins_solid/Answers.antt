use Rattle.std.proofs.Common.{◌∙◌, ◌∷◌, ap, map, sym}
use Rattle.ly_join.specs.Grammar.{symbol_of}
use Rattle.ly_relate.proofs.RuleLemmas.{body_is, first_seen}
use Rattle.ly_relate.proofs.parted_rules.begins_solid.Goals as goal

pub returns-in-Some-Terminal : goal.returns-in-Some-Terminal
returns-in-Some-Terminal c = λ yes r is_rule.
    let seen = first_seen c.body-body.result.now c.in-Some-Terminal.field-0.now
    (sym c.in-Some-Terminal.ensures.value) in
    let body = body_is c.args.rule c.grammar.result.now c.reduced.result.now.grammar c.args.lr0.now.grammar
    c.rule.result.now r (map symbol_of c.body-body.result.now) c.grammar.ensures.keeps c.reduced.ensures
    c.rule.ensures.there c.body-body.ensures is_rule in (
      c.in-Some-Terminal.field-0-0.0,
      seen.0,
      body ∙ (seen.1 ∙ ap (λ Z. symbol_of Z ∷ seen.0) c.in-Some-Terminal.field-0-is),
    )
