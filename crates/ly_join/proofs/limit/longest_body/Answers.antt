use Rattle.std.proofs.Common.{◌≡◌, ◌∙◌, ap, ap₂, arith, sym, length, map, max, take}
use Rattle.std.proofs.lemmas.List.{length-map}
use Rattle.ly_yaccread.specs.File.{ruling_of, symbol_word}
use Rattle.ly_join.specs.Counts.{greatest}
use Rattle.ly_join.proofs.CountLemmas.{greatest_push}
use Rattle.ly_join.proofs.ListLemmas.{twice_more}
use Rattle.ly_join.proofs.limit.longest_body.Goals as goal

pub loop-rule-preserved : goal.loop-rule-preserved
loop-rule-preserved c =
    let rule = c.rule-item.result in
    let at = c.loop-rule.rule-index in
    let bodies = map (λ r. length r.body) (map ruling_of c.args.rules.now) in
    let size : c.len.result ≡ length (map symbol_word rule.body.items)
    = omega (arith, c.len.ensures, rule.body.ok.0, length-map rule.body.items symbol_word) in
    c.max-longest.ensures ∙ (ap₂ max size c.loop-rule.invariant
    ∙ sym (ap greatest (twice_more (λ r. length r.body) ruling_of c.args.rules.now at rule c.loop-rule-test.true
    c.rule-item.is) ∙ greatest_push (take at bodies) (length (map symbol_word rule.body.items))))
