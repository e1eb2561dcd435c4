use Rattle.std.proofs.Common.{◌≡◌, ◌∙◌, ◌∷◌, map, refl, slice_index_or, subst, sym}
use Rattle.std.proofs.Common.{inl, inr, Contains}
use Rattle.std.proofs.lemmas.List.{take_all}
use Rattle.std.proofs.lemmas.List.Elements.{Contains-get_or}
use Rattle.ly_join.specs.Grammar.{IsRule, symbol_of}
use Rattle.ly_lr0.specs.Automaton.{goto_of}
use Rattle.ly_relate.proofs.RuleLemmas.{body_is, first_seen, rule_within}
use Rattle.ly_relate.proofs.UnionLemmas.{take_Contains}
use Rattle.ly_relate.proofs.groups.all_lead_alike.Goals as goal

pub rule-requires : goal.rule-requires
rule-requires c =
    let k = c.loop-rule.rule-index in
    rule_within (slice_index_or c.args.rules.now k 0) c.grammar.result.now c.reduced.result.now.grammar
    c.args.lr0.now.grammar c.grammar.ensures.keeps c.reduced.ensures
    (c.requires.rules (slice_index_or c.args.rules.now k 0)
    (Contains-get_or c.args.rules.now k 0 c.loop-rule-test.true))

pub loop-rule-preserved : goal.loop-rule-preserved
loop-rule-preserved c = λ k has r X rest is_rule begins.
    let M = c.args.lr0.now in
    let rules = c.args.rules.now in
    let i = c.loop-rule.rule-index in
    let here : slice_index_or rules i 0 ≡ k → goto_of M c.args.one.0 X ≡ goto_of M c.args.other.0 X
    = λ same.
    let seen = first_seen c.body.result.now c.in-Some.symbol.now (sym c.in-Some.ensures.value) in
    let body = body_is (slice_index_or rules i 0) c.grammar.result.now c.reduced.result.now.grammar M.grammar
    c.rule.result.now r (map symbol_of c.body.result.now) c.grammar.ensures.keeps c.reduced.ensures
    c.rule.ensures.there c.body.ensures (subst (λ p. IsRule M.grammar p r) (sym same) is_rule) in
    let whole : X ∷ rest ≡ symbol_of c.in-Some.symbol.now ∷ seen.0 = sym begins ∙ (body ∙ seen.1) in
    let first : X ≡ symbol_of c.in-Some.symbol.now = cc in
    let lead : goto_of M c.args.one.0 (symbol_of c.in-Some.symbol.now)
    ≡ goto_of M c.args.other.0 (symbol_of c.in-Some.symbol.now)
    = sym c.goto_near-target.ensures ∙ (c.if-not-are_same.ensures refl ∙ c.goto_near-found.ensures) in
    subst (λ Y. goto_of M c.args.one.0 Y ≡ goto_of M c.args.other.0 Y) (sym first) lead in
    elim ((take_Contains rules i 0 k c.loop-rule-test.true).0 has) [
      | inl before ↦ c.loop-rule.invariant k before r X rest is_rule begins
      | inr same ↦ here same
    ]

pub returns : goal.returns
returns c = λ yes k has r X rest.
    c.loop-rule.invariant k (subst (λ rules. Contains rules k)
    (sym (take_all c.loop-rule.rule-index c.args.rules.now c.loop-rule-test.false)) has) r X rest
