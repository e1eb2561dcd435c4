use Rattle.std.proofs.Common.{◌≡◌, ◌<◌, ◌+◌, ◌∙◌, All, arith, length, subst, sym}
use Rattle.std.specs.Prelude.{option_map}
use Rattle.ly_subset.specs.Subsets.{HasEnd, IsLeastRule}
use Rattle.std.proofs.lemmas.List.{length-map}
use Rattle.ly_subset.proofs.RuleLemmas.{HaveRulesTo, have_rules_more, set_within}
use Rattle.ly_subset.proofs.rules.rules_of.Goals as goal

pub rule_of-requires-clause-positions : goal.rule_of-requires-clause-positions
rule_of-requires-clause-positions c = subst (λ ps. All (λ p. p < length c.args.nfa.now.positions) ps)
    (sym c.in_ok-members.ensures)
    (set_within (length c.args.nfa.now.positions) c.args.keys.now c.loop-number.number c.requires)

pub loop-number-preserved : goal.loop-number-preserved
loop-number-preserved c = record {
  ends = c.loop-number.invariant.ends;
  rules = subst (λ rs. HaveRulesTo c.args.nfa.now c.args.keys.now (c.loop-number.number + 1) rs)
      (sym c.in_ok-push.ensures.items)
      (have_rules_more c.args.nfa.now c.args.keys.now c.loop-number.number c.loop-number.rules.items c.rule_of.result
      c.loop-number.invariant.rules
      (subst (λ ps. IsLeastRule (HasEnd c.args.nfa.now ps) (option_map (λ r. r.0) c.rule_of.result))
      c.in_ok-members.ensures c.rule_of.ensures));
}

pub returns : goal.returns
returns c =
    let end : c.loop-number.number ≡ length c.args.keys.now = (let all = c.len-number-end.ensures in
    let last = c.loop-number.auto.number-end in let past = c.loop-number-test.false in omega arith) in
    record {
      count = length-map c.loop-number.rules.items (option_map (λ r. r.0)) ∙ c.loop-number.invariant.rules.count ∙ end;
      least = λ s l. c.loop-number.invariant.rules.least s (omega (arith, l, end));
    }
