use Rattle.std.proofs.Common.{◌∙◌, map}
use Rattle.ly_feed.proofs.LabelLemmas.{label_missing, label_there}
use Rattle.ly_feed.specs.Private.Labels.{leaf_label}
use Rattle.ly_feed.proofs.labels.Labels.leaf.Goals as goal

pub returns-in-Some : goal.returns-in-Some
returns-in-Some c form names are =
    label_there (leaf_label form) (map (λ name. name.items) names.terminals.now) c.deref.result.now c.args.terminal.0
    (c.deref.ensures.value ∙ are.leaves) c.in-Some.label.now c.in-Some.ensures.lookup.3.0 c.in-Some.ensures.lookup.1

pub returns-in-None : goal.returns-in-None
returns-in-None c form names are =
    are.nameless_leaf
    ∙ label_missing (leaf_label form) (map (λ name. name.items) names.terminals.now) c.deref.result.now
    c.args.terminal.0 (c.deref.ensures.value ∙ are.leaves) c.in-None.ensures.lookup.3
