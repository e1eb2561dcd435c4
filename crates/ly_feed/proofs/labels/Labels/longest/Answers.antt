use Rattle.std.proofs.Common.{◌∙◌, ◌≤◌, ap, arith, length, map, subst, sym}
use Rattle.ly_pack.specs.Values.{rule_from}
use Rattle.ly_feed.proofs.LabelLemmas.{all_more, by_number, label_within}
use Rattle.ly_feed.specs.Private.Labels.{constructors_of, leaf_label, node_label}
use Rattle.ly_feed.proofs.labels.Labels.longest.Goals as goal

pub returns-clause-leaves : goal.returns-clause-leaves
returns-clause-leaves c form names are t =
    label_within (leaf_label form) (map (λ name. name.items) names.terminals.now) c.deref.result.now t c.max-2.result
    (c.deref.ensures.value ∙ are.leaves)
    (all_more c.deref.result.now c.longest_of.result c.max-2.result
    (omega (arith, c.max-named.ensures, c.max.ensures, c.max-2.ensures)) c.longest_of.ensures)
    (omega (arith, c.max.ensures, c.max-2.ensures, c.len.ensures, ap length are.nameless_leaf))

pub returns-clause-nodes : goal.returns-clause-nodes
returns-clause-nodes c form names are p =
    let rules = map rule_from names.rules.now in
    subst (λ name. length (node_label form name) ≤ c.max-2.result) (sym (by_number rules p))
    (label_within (node_label form) (constructors_of rules) c.deref-2.result.now p c.max-2.result
    (c.deref-2.ensures.value ∙ are.nodes)
    (all_more c.deref-2.result.now c.longest_of-2.result c.max-2.result
    (omega (arith, c.max-named.ensures, c.max.ensures, c.max-2.ensures)) c.longest_of-2.ensures)
    (omega (arith, c.max-2.ensures, c.len-2.ensures, ap length are.nameless_node)))
