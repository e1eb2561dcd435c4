use Rattle.std.proofs.Common.{◌∙◌, ap, map, sym}
use Rattle.ly_pack.specs.Values.{rule_from}
use Rattle.ly_feed.proofs.LabelLemmas.{by_number, label_missing, label_there}
use Rattle.ly_feed.specs.Private.Labels.{constructors_of, node_label}
use Rattle.ly_feed.proofs.labels.Labels.node.Goals as goal

pub returns-in-Some : goal.returns-in-Some
returns-in-Some c form names are =
    let rules = map rule_from names.rules.now in
    label_there (node_label form) (constructors_of rules) c.deref.result.now c.args.rule.0
    (c.deref.ensures.value ∙ are.nodes) c.in-Some.label.now c.in-Some.ensures.lookup.3.0 c.in-Some.ensures.lookup.1
    ∙ ap (node_label form) (sym (by_number rules c.args.rule.0))

pub returns-in-None : goal.returns-in-None
returns-in-None c form names are =
    let rules = map rule_from names.rules.now in
    are.nameless_node
    ∙ label_missing (node_label form) (constructors_of rules) c.deref.result.now c.args.rule.0
    (c.deref.ensures.value ∙ are.nodes) c.in-None.ensures.lookup.3
    ∙ ap (node_label form) (sym (by_number rules c.args.rule.0))
