use Rattle.std.proofs.Common.{◌≡◌, ◌∙◌, ◌<◌, ◌-◌, ap, sym, arith, length, get_or}
use Rattle.ly_digraph.specs.Digraph.{target}
use Rattle.ly_digraph.specs.Search.{top, next_target}
use Rattle.ly_digraph.specs.Walk.{place}
use Rattle.ly_digraph.specs.declared.walk.Walk.{Walk}
use Rattle.ly_digraph.specs.declared.walk.Place.TheVariants.{New}
use Rattle.ly_digraph.proofs.StepLemmas.{enters_on, top_read, top_inside, read_is, links_next}
use Rattle.ly_digraph.proofs.UnionLemmas.{continues_none}
use Rattle.ly_digraph.proofs.walk.Walk.step.Goals as goal

pub returns-then-is_empty-clause-on : goal.returns-then-is_empty-clause-on
returns-then-is_empty-clause-on c = continues_none c.requires

pub returns-in_ok-enter-in-New-clause-on : goal.returns-in_ok-enter-in-New-clause-on
returns-in_ok-enter-in-New-clause-on c =
    let w : Walk = c.args.self.now in
    let some : 0 < length w.path.items = (let test = sym c.is_empty.ensures ∙ c.if-is_empty.false
    in let ok = w.path.ok.0 in grind (arith, test, ok)) in
    let frame_is = top_read w c.len.result c.index-frame.result.now some c.len.ensures c.index-frame.ensures in
    let inside = top_inside w c.requires some in
    let cursors_len = c.requires.marked.cursors_len in
    let cursor : get_or w.cursors.items (top w).node 0 ≡ c.index-cursor.result.now =
    sym (ap (λ f. get_or w.cursors.items f.node 0) frame_is)
    ∙ read_is w.cursors.items c.index-frame.result.now.node c.index-cursor.result.now 0 (let e
    = ap (λ f. f.node) frame_is in omega arith) c.index-cursor.ensures in
    let target_is : next_target c.args.graph.now w ≡ c.target-target.result
    = ap (λ k. target c.args.graph.now (k - 1)) cursor ∙ sym c.target-target.ensures.value in
    let is_new : place w.places.items c.target-target.result ≡ New =
    read_is w.places.items c.target-target.result c.index.result.now New (let l = c.requires.marked.places_len
    in let i = c.target-target.ensures.inside in omega arith) c.index.ensures ∙ c.in-New.is in
    enters_on c.args.sets.now c.target-target.result c.requires c.target-target.ensures.inside is_new
    (links_next c.args.graph.now w c.target-target.result (let e = c.if-cursor-eq0.false in omega arith) target_is)
    c.in_ok-enter-in-New.ensures
