use Rattle.std.proofs.Common.{◌≡◌, ◌∙◌, ◌<◌, ap, sym, subst, length}
use Rattle.ly_digraph.specs.Search.{Continues, top}
use Rattle.ly_digraph.proofs.StepLemmas.{merge_some, merge_row, merge_row_from, merge_waits, merge_on, merge_fewer}
use Rattle.ly_digraph.proofs.StepLemmas.{top_read}
use Rattle.ly_digraph.proofs.UnionLemmas.{united}
use Rattle.ly_digraph.proofs.walk.Walk.merge.Goals as goal

pub union_row-requires-clause-to : goal.union_row-requires-clause-to
union_row-requires-clause-to c =
    let some = merge_some c.args.graph.now c.args.sets.now c.args.self.now c.args.frame c.requires.at c.requires.spent
    c.requires.turns in
    let node =
    ap (λ f. f.node) (top_read c.args.self.now c.len.result c.index.result.now some c.len.ensures c.index.ensures)
    in
    subst (λ x. x < length c.args.sets.now.sets) (sym node)
    (merge_row c.args.graph.now c.args.sets.now c.args.self.now c.args.frame c.requires.at c.requires.spent
    c.requires.turns)

pub union_row-requires-clause-from : goal.union_row-requires-clause-from
union_row-requires-clause-from c
    = merge_row_from c.args.graph.now c.args.sets.now c.args.self.now c.args.frame c.requires.at c.requires.spent
    c.requires.turns

pub advance-requires : goal.advance-requires
advance-requires c
    = merge_waits c.args.graph.now c.args.sets.now c.args.self.now c.args.frame c.requires.at c.requires.spent
    c.requires.turns c.lower.new.self c.lower.ensures

pub returns-clause-on : goal.returns-clause-on
returns-clause-on c =
    let some = merge_some c.args.graph.now c.args.sets.now c.args.self.now c.args.frame c.requires.at c.requires.spent
    c.requires.turns in
    let node =
    ap (λ f. f.node) (top_read c.args.self.now c.len.result c.index.result.now some c.len.ensures c.index.ensures)
    in
    let new : c.union_row.new.self ≡ united c.args.sets.now (top c.args.self.now).node c.args.frame.node
    = c.in_ok-union_row.ensures.united ∙ ap (λ p. united c.args.sets.now p c.args.frame.node) node in
    subst (λ m. Continues c.args.graph.now c.args.sets.now c.args.self.now m c.advance.new.self) (sym new)
    (merge_on c.args.graph.now c.args.sets.now c.args.self.now c.args.frame c.requires.at c.requires.spent
    c.requires.turns c.lower.new.self c.lower.ensures
    c.advance.new.self c.advance.ensures)

pub returns-clause-fewer : goal.returns-clause-fewer
returns-clause-fewer c =
    merge_fewer c.args.graph.now c.args.sets.now c.args.self.now c.args.frame c.requires.at c.requires.spent
    c.requires.turns c.lower.new.self c.lower.ensures
    c.advance.new.self c.advance.ensures
