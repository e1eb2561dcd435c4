use Rattle.std.proofs.Common.{◌≡◌, ◌∙◌, ◌+◌, map, subst, take, slice_index_or}
use Rattle.std.proofs.lemmas.List.{take_all}
use Rattle.std.proofs.lemmas.List.Elements.{Contains-get_or}
use Rattle.ly_relate.specs.Private.Walks.{AreBack, AreEdgesTo, IncludesByOne, IsIncludingBy, IsLookingBack}
use Rattle.ly_relate.specs.Private.Walks.{LooksBackByOne}
use Rattle.ly_relate.specs.Values.{lookback_from}
use Rattle.ly_relate.proofs.UnionLemmas.{back_union, edges_union, includes_rules_more, looks_rules_more}
use Rattle.ly_relate.proofs.walks.Walks.walk_rules.Goals as goal

pub walk-requires-clause-rule : goal.walk-requires-clause-rule
walk-requires-clause-rule c =
    let rules = c.args.rules.now in
    let rule = slice_index_or rules c.loop-rule.rule-index 0 in
    let x = c.requires.rules in
    let is = x.2 rule (Contains-get_or rules c.loop-rule.rule-index 0 c.loop-rule-test.true) in
    (x.0, x.1, is.0, is.1, is.2)

pub loop-rule-preserved : goal.loop-rule-preserved
loop-rule-preserved c =
    let n = c.args.gotos.now in
    let m = c.args.goto in
    let o = c.args.node in
    let rules = c.args.rules.now in
    let k = c.loop-rule.rule-index in
    let rule = slice_index_or rules k 0 in
    record {
      nodes = c.in_ok-walk.ensures.nodes ∙ c.loop-rule.invariant.nodes;
      includes = edges_union c.args.self.now.includes c.loop-rule.self.includes c.walk.new.self.includes o
          (IncludesByOne n (take k rules) m) (λ i. IsIncludingBy n.automaton n.gotos rule i m)
          (IncludesByOne n (take (k + 1) rules) m) (includes_rules_more n rules k 0 m c.loop-rule-test.true)
          c.loop-rule.invariant.includes c.in_ok-walk.ensures.includes;
      lookbacks = back_union (map lookback_from c.args.self.now.lookbacks)
          (map lookback_from c.loop-rule.self.lookbacks) (map lookback_from c.walk.new.self.lookbacks) o
          (LooksBackByOne n (take k rules) m) (λ s p. (p ≡ rule) × IsLookingBack n.automaton n.gotos m s p)
          (LooksBackByOne n (take (k + 1) rules) m) (looks_rules_more n rules k 0 m c.loop-rule-test.true)
          c.loop-rule.invariant.lookbacks c.in_ok-walk.ensures.lookbacks;
    }

pub returns-clause-includes : goal.returns-clause-includes
returns-clause-includes c =
    let past = c.loop-rule-test.false in
    subst (λ rules. AreEdgesTo c.args.self.now.includes c.loop-rule.self.includes c.args.node
    (IncludesByOne c.args.gotos.now rules c.args.goto)) (take_all c.loop-rule.rule-index c.args.rules.now past)
    c.loop-rule.invariant.includes

pub returns-clause-lookbacks : goal.returns-clause-lookbacks
returns-clause-lookbacks c =
    let past = c.loop-rule-test.false in
    subst (λ rules. AreBack (map lookback_from c.args.self.now.lookbacks)
    (map lookback_from c.loop-rule.self.lookbacks) c.args.node
    (LooksBackByOne c.args.gotos.now rules c.args.goto)) (take_all c.loop-rule.rule-index c.args.rules.now past)
    c.loop-rule.invariant.lookbacks
