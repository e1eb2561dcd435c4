use Rattle.std.proofs.Common.{◌∙◌, ap, map, subst, sym}
use Rattle.std.specs.Prelude.{IfOk}
use Rattle.ly_feed.specs.TableAnswer.{IsVerdict}
use Rattle.ly_feed.specs.Verdict.{faulty}
use Rattle.ly_pack.specs.Values.{rule_from}
use Rattle.ly_places.specs.Parsing.{IsParsedAs}
use Rattle.ly_places.specs.PlacedAnswer.{IsPlacedVerdict, PlacedVerdict}
use Rattle.ly_places.specs.Shapes.{keeping_rule}
use Rattle.ly_places.proofs.parsing.parse.Goals as goal

pub parse_by-parsed-requires : goal.parse_by-parsed-requires
parse_by-parsed-requires c = record {
  rules = ap (map rule_from) c.deref.ensures.value
      ∙ (c.in_ok-rules.ensures ∙ ap (λ s. map keeping_rule s.rules) (sym c.in_ok-prepared.ensures));
}

pub returns-clause-parsed : goal.returns-clause-parsed
returns-clause-parsed c = subst (λ s. IfOk c.parse_by-parsed.result (λ p. (v : PlacedVerdict)
    × IsPlacedVerdict s c.args.text.now v × IsParsedAs c.args.text.now v p)) c.in_ok-prepared.ensures
    c.parse_by-parsed.ensures.parsed

pub returns-clause-faulty : goal.returns-clause-faulty
returns-clause-faulty c is = subst (λ s. IsVerdict s c.args.text.now faulty) c.in_ok-prepared.ensures
    (c.parse_by-parsed.ensures.faulty is)
