use Rattle.std.proofs.Common.{◌≡◌, ◌++◌, map, take}
use Rattle.ly_feed.specs.Vocabularies.{name_in}
use Rattle.ly_listing.specs.Labels.{label_for}
use Rattle.ly_drive.proofs.table_tokens.labels_of.Given as goal

-- there are the labels of the literals, and of the terminals so far
abbrev pub invariant-loop-name : goal.invariant-loop-name
invariant-loop-name l = l.labels.items
    ≡ map (λ t. label_for l.form (name_in l.set.terminals t)) l.set.literals
    ++ map (λ n. label_for l.form n.items) (take l.name-index l.terminals)
