use Rattle.std.proofs.Common.{◌≡◌, ◌∙◌, ap, length, not, rules, tests, arith}
use Rattle.std.specs.Option.{unwrap_or}
use Rattle.std.specs.List.{position}
use Rattle.std.proofs.lemmas.Iterator.{YieldsList-from_slice}
use Rattle.std.proofs.lemmas.Iterator.Search.{position_from_yields_List}
use Rattle.ly_base.specs.Language.{is_decimal}
use Rattle.ly_base.proofs.NameLemmas.{unwrap_or-position_not}
use Rattle.ly_base.proofs.names.digits_length.Goals as goal

pub returns-clause-value : goal.returns-clause-value
returns-clause-value c =
    let text = c.args.text.now in
    let p : c.position.result ≡ position (λ byte. not (is_decimal byte)) text
    = position_from_yields_List (λ byte. not (is_decimal byte)) _ _ c.position.result c.position.ensures.ran
    (YieldsList-from_slice text cc) (λ x b q k. search (rules, tests)) in
    let e : c.unwrap_or.result ≡ unwrap_or c.position.result (length text) = grind arith in
    e ∙ ap (λ o. unwrap_or o (length text)) p ∙ unwrap_or-position_not is_decimal text
