use Rattle.std.proofs.Common.{◌≡◌, ◌∙◌, ap, length, eqb, rules, tests, arith}
use Rattle.std.specs.Option.{unwrap_or}
use Rattle.std.specs.List.{position}
use Rattle.std.proofs.lemmas.Iterator.{YieldsList-from_slice}
use Rattle.std.proofs.lemmas.Iterator.Search.{position_from_yields_List}
use Rattle.ly_base.proofs.NameLemmas.{unwrap_or-position}
use Rattle.ly_lexread.proofs.rest.line_length.Goals as goal

pub returns-clause-value : goal.returns-clause-value
returns-clause-value c =
    let bytes = c.args.bytes.now in
    let p : c.position.result ≡ position (λ byte. eqb byte 10) bytes
    = position_from_yields_List (λ byte. eqb byte 10) _ _ c.position.result c.position.ensures.ran
    (YieldsList-from_slice bytes cc) (λ x b q k. search (rules, tests)) in
    let e : c.unwrap_or.result ≡ unwrap_or c.position.result (length bytes) = grind arith in
    e ∙ ap (λ o. unwrap_or o (length bytes)) p ∙ unwrap_or-position (λ byte. eqb byte 10) bytes
