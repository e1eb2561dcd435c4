use Rattle.std.proofs.Common.{◌∙◌, ◌++◌, ap, map, subst}
use Rattle.std.proofs.lemmas.List.{take_all}
use Rattle.ly_feed.specs.Vocabularies.{constructor_of}
use Rattle.ly_pack.specs.Values.{rule_from}
use Rattle.lytab_c.proofs.NameLemmas.{constructors}
use Rattle.lytab_c.specs.Private.Listing.{IsListOf}
use Rattle.lytab_c.proofs.name_list.NameList.of.Goals as goal

pub returns : goal.returns
returns c =
    let rules = c.rules-rule-items.result.now in
    let s = c.args.set.now in
    let all = take_all c.loop-rule.rule-index rules c.loop-rule-test.false in
    let same = ap (map (λ r. constructor_of (rule_from r).shape)) all in
    subst (λ names. IsListOf (s.terminals ++ names) c.loop-rule.list)
    (same ∙ (constructors rules ∙ ap (map (λ r. constructor_of r.shape)) c.rules-rule-items.ensures))
    c.loop-rule.invariant
