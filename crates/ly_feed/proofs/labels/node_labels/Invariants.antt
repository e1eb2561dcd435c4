use Rattle.std.proofs.Common.{◌≡◌, map, take}
use Rattle.ly_feed.specs.Private.Labels.{constructors_of, node_label}
use Rattle.ly_pack.specs.Values.{rule_from}
use Rattle.ly_feed.proofs.labels.node_labels.Given as goal

-- the labels so far are those of rule 0 and of the first rules
abbrev pub invariant-loop-rule : goal.invariant-loop-rule
invariant-loop-rule l =
    l.labels.items ≡ map (node_label l.form) (constructors_of (map rule_from (take l.rule-index l.rules)))
