use Rattle.std.proofs.Common.{◌≡◌, ◌∙◌, ap, ap₂, sym, subst, arith, refl}
use Rattle.ly_digraph.specs.Search.{Continues, top, next_target}
use Rattle.ly_digraph.specs.Walk.{place}
use Rattle.ly_digraph.specs.declared.walk.Place.TheVariants.{Done}
use Rattle.ly_digraph.proofs.StepLemmas.{IsGoingOn, absorbs_by, going_on, going_fewer, next_reached, top_row, top_read}
use Rattle.ly_digraph.proofs.UnionLemmas.{united, united_between}
use Rattle.ly_digraph.proofs.walk.Walk.absorb.Goals as goal

is_done : (c : goal.After-advance) → place c.args.self.now.places.items (next_target c.args.graph.now c.args.self.now)
    ≡ Done
is_done c = ap (place c.args.self.now.places.items) (sym c.requires.next) ∙ c.requires.done

goes_on : (c : goal.After-advance)
    → IsGoingOn c.args.graph.now c.args.sets.now
    (united c.args.sets.now (top c.args.self.now).node (next_target c.args.graph.now c.args.self.now)) c.args.self.now
    c.advance.new.self
goes_on c = absorbs_by c.args.graph.now c.args.sets.now c.args.self.now c.advance.new.self c.requires.at
    c.requires.waits (is_done c) c.advance.ensures

new_sets : (c : goal.After-advance) → c.union_row.new.self ≡ united c.args.sets.now (top c.args.self.now).node
    (next_target c.args.graph.now c.args.self.now)
new_sets c =
    let node =
    ap (λ f. f.node)
    (top_read c.args.self.now c.len.result c.index.result.now c.requires.waits.some c.len.ensures c.index.ensures)
    in
    c.in_ok-union_row.ensures.united ∙ ap₂ (λ p q. united c.args.sets.now p q) node c.requires.next

pub returns-clause-on : goal.returns-clause-on
returns-clause-on c =
    let w = c.args.self.now in
    let between = united_between c.args.sets.now (top w).node (next_target c.args.graph.now w)
    (top_row c.args.sets.now w c.requires.at c.requires.waits.some) c.args.graph.now
    (next_reached c.args.graph.now w c.requires.at c.requires.waits) in
    subst (λ m. Continues c.args.graph.now c.args.sets.now w m c.advance.new.self) (sym (new_sets c))
    (going_on (goes_on c) between refl (omega arith))

pub returns-clause-fewer : goal.returns-clause-fewer
returns-clause-fewer c = going_fewer (goes_on c)
