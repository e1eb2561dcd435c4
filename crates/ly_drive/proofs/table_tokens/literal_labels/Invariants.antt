use Rattle.std.proofs.Common.{◌≡◌, map, take}
use Rattle.ly_base.specs.declared.numbers.Sym.{Sym}
use Rattle.ly_feed.specs.Vocabularies.{name_in}
use Rattle.ly_listing.specs.Labels.{label_for}
use Rattle.ly_drive.proofs.table_tokens.literal_labels.Given as goal

-- there are the labels of the literals so far
abbrev pub invariant-loop-literal : goal.invariant-loop-literal
invariant-loop-literal l = l.labels.items
    ≡ map (λ (t : Sym). label_for l.form (name_in l.set.terminals t.0)) (take l.literal-index l.literals)
