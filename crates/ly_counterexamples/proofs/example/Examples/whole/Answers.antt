use Rattle.std.proofs.Common.{◌≡◌, ◌∙◌, Some, ap, length, subst, sym}
use Rattle.std.proofs.lemmas.List.{length-map}
use Rattle.std.proofs.lemmas.Option.{slice_get_within}
use Rattle.ly_join.specs.Grammar.{IsRule, symbol_of}
use Rattle.ly_grammar.proofs.SearchLemmas.{rule_is_one}
use Rattle.ly_counterexamples.proofs.OpeningLemmas.{rule_within}
use Rattle.ly_counterexamples.proofs.example.Examples.whole.Goals as goal

pub rule-requires : goal.rule-requires
rule-requires c =
    let x = c.requires.0 in
    let same : c.args.self.now.automaton.grammar ≡ c.reduced.result.now.grammar
    = sym (c.reduced.ensures ∙ ap (λ a. a.grammar) (c.self.invariant.1 ∙ ap (λ v. v.automaton) c.self.view_is)) in
    slice_get_within c.grammar-grammar.result.now.rules c.args.rule.0 (Some x)
    (rule_within c.grammar-grammar.result.now c.reduced.result.now.grammar c.grammar-grammar.ensures.keeps
    c.args.rule.0 x
    (subst (λ G. IsRule G c.args.rule.0 x) same c.requires.1))

pub returns-clause-end : goal.returns-clause-end
returns-clause-end c =
    let x = c.requires.0 in
    let same : c.args.self.now.automaton.grammar ≡ c.reduced.result.now.grammar
    = sym (c.reduced.ensures ∙ ap (λ a. a.grammar) (c.self.invariant.1 ∙ ap (λ v. v.automaton) c.self.view_is)) in
    let is : IsRule c.grammar-grammar.result.now c.args.rule.0 x
    = rule_within c.grammar-grammar.result.now c.reduced.result.now.grammar c.grammar-grammar.ensures.keeps
    c.args.rule.0 x
    (subst (λ G. IsRule G c.args.rule.0 x) same c.requires.1) in (
      x,
      c.requires.1,
      sym (length-map c.body-dot.result.now symbol_of) ∙ ap length c.body-dot.ensures
          ∙ ap (λ r. length r.body)
          (rule_is_one c.grammar-grammar.result.now c.args.rule.0 c.rule.result.now x c.rule.ensures.there is),
    )
