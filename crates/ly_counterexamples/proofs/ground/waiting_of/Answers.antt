use Rattle.std.proofs.Common.{◌≡◌, ◌∙◌, ◌+◌, Some, ap, arith, subst, sym, length, map, All}
use Rattle.std.proofs.lemmas.Bool.{iff_false}
use Rattle.std.proofs.lemmas.List.{length-map}
use Rattle.ly_join.specs.Grammar.{IsAugmented, IsRule, symbol_of}
use Rattle.ly_grammar.specs.Private.Search.{HasNumberBelow}
use Rattle.ly_counterexamples.specs.Private.Lists.{AreWaitingAdded, AreWaitingOf}
use Rattle.ly_counterexamples.proofs.BackLemmas.{kept_is}
use Rattle.ly_counterexamples.proofs.GroundLemmas.{body_below, rule_added, rule_removed, waiting_all}
use Rattle.ly_counterexamples.proofs.ground.waiting_of.Goals as goal
use Rattle.ly_counterexamples.proofs.ground.waiting_of.Goals.{then-is_kept+in_ok-push_waiting, else-is_kept}

pub push_waiting-requires : goal.push_waiting-requires
push_waiting-requires c =
    let G = c.args.lr0.now.grammar in
    let rule = c.loop-rule.rule in
    let k = c.is_kept.ensures.0 c.if-is_kept.true in
    let kept = subst (λ A. IsRule A rule k.0) c.reduced-reduced.ensures k.1 in
    let same = kept_is c.grammar-grammar.result.now c.reduced-reduced.result.now.grammar G rule c.rule.result.now k.0
    c.grammar-grammar.ensures.keeps c.reduced-reduced.ensures c.rule.ensures.there kept in
    let shown : map symbol_of c.body.result.now ≡ k.0.body = c.body.ensures ∙ ap (λ r. r.body) same in
    let augmented = subst (IsAugmented) c.reduced-reduced.ensures c.grammar-grammar.ensures.augmented in
    subst (λ n. All (HasNumberBelow n) (map symbol_of c.body.result.now)) (sym c.loop-rule.invariant.count)
    (subst (All (HasNumberBelow (G.accept + 1))) (sym shown) (body_below G augmented rule k.0 kept))

pub loop-rule-preserved : goal.loop-rule-preserved
loop-rule-preserved c =
    let G = c.args.lr0.now.grammar in
    let rule = c.loop-rule.rule in
    let old = c.loop-rule.waiting in
    elim c.if-is_kept.branch [
      | then-is_kept+in_ok-push_waiting w ↦
          let k = c.is_kept.ensures.0 w.if-is_kept.true in
          let kept = subst (λ A. IsRule A rule k.0) c.reduced-reduced.ensures k.1 in
          let same = kept_is c.grammar-grammar.result.now c.reduced-reduced.result.now.grammar G rule
          w.rule.result.now k.0 c.grammar-grammar.ensures.keeps c.reduced-reduced.ensures w.rule.ensures.there kept in
          let shown : map symbol_of w.body.result.now ≡ k.0.body = w.body.ensures ∙ ap (λ r. r.body) same in
          let long : length w.body.result.now ≡ length k.0.body
          = sym (length-map w.body.result.now symbol_of) ∙ ap length shown in
          let new = w.push_waiting.new.waiting in
          rule_added G rule old c.loop-rule.invariant k.0 c.if-is_kept.waiting kept
          (subst (λ u. AreWaitingAdded old u k.0.body rule (length k.0.body)) (sym w.waiting-is)
          (subst (λ n. AreWaitingAdded old new k.0.body rule n) long
          (subst (λ b. AreWaitingAdded old new b rule (length w.body.result.now)) shown w.in_ok-push_waiting.ensures)))
      | else-is_kept w ↦ subst (λ u. AreWaitingOf G u (rule + 1)) (sym w.waiting-is)
          (rule_removed G rule old c.loop-rule.invariant (λ (r, is).
          iff_false c.is_kept.ensures w.if-is_kept.false
          (r, subst (λ A. IsRule A rule r) (sym c.reduced-reduced.ensures) is)))
    ]

pub returns : goal.returns
returns c =
    let numbers = c.grammar-grammar.ensures.keeps.numbers in
    let same = ap (λ A. length A.rules) c.reduced-reduced.ensures in
    let these : length c.rules-rule-end.result.now ≡ length c.grammar-grammar.result.now.rules
    = sym (length-map c.rules-rule-end.result.now (λ r. Some r)) ∙ ap length c.rules-rule-end.ensures.these in
    waiting_all c.args.lr0.now.grammar c.loop-rule.waiting c.loop-rule.rule (omega (arith, numbers, same, these))
    c.loop-rule.invariant

pub rule-requires : goal.rule-requires
rule-requires c =
    let these : length c.rules-rule-end.result.now ≡ length c.grammar-grammar.result.now.rules
    = sym (length-map c.rules-rule-end.result.now (λ r. Some r)) ∙ ap length c.rules-rule-end.ensures.these in
    omega (arith, c.loop-rule-test.true, these)

pub is_kept-requires : goal.is_kept-requires
is_kept-requires c =
    let numbers = c.grammar-grammar.ensures.keeps.numbers in
    let these : length c.rules-rule-end.result.now ≡ length c.grammar-grammar.result.now.rules
    = sym (length-map c.rules-rule-end.result.now (λ r. Some r)) ∙ ap length c.rules-rule-end.ensures.these in
    omega (arith, c.loop-rule-test.true, numbers, these)
