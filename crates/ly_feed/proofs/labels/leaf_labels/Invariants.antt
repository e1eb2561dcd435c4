use Rattle.std.proofs.Common.{◌≡◌, map, take}
use Rattle.ly_feed.specs.Private.Labels.{leaf_label}
use Rattle.ly_feed.proofs.labels.leaf_labels.Given as goal

-- the labels so far are those of the first terminals
abbrev pub invariant-loop-name : goal.invariant-loop-name
invariant-loop-name l =
    l.labels.items ≡ map (leaf_label l.form) (map (λ name. name.items) (take l.name-index l.names))
