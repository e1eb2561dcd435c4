use Rattle.std.proofs.Common.{◌≡◌, ◌∙◌, ◌+◌, ap, sym, subst, arith, replicate, sum_by, All, []}
use Rattle.ly_digraph.specs.Walk.{IsWalk}
use Rattle.ly_digraph.specs.Digraph.{IsInside}
use Rattle.ly_digraph.specs.Search.{undone_one}
use Rattle.ly_digraph.specs.declared.walk.Place.TheVariants.{New}
use Rattle.ly_digraph.proofs.GraphLemmas.{AreEnds, ends_none, ends_more, begins, all_undone}
use Rattle.ly_digraph.proofs.CountLemmas.{waiting_from-le}
use Rattle.ly_digraph.proofs.walk.Walk.new.Goals as goal

pub loop-node-init : goal.loop-node-init
loop-node-init c = subst (λ cs. AreEnds c.args.graph.now cs 0) (sym c.in_ok-cursors.ensures.items)
    (ends_none c.args.graph.now)

pub loop-node-preserved : goal.loop-node-preserved
loop-node-preserved c = subst (λ cs. AreEnds c.args.graph.now cs (c.loop-node.node + 1))
    (sym c.in_ok-push.ensures.items)
    (ends_more c.args.graph.now c.loop-node.cursors.items c.loop-node.node c.end.result c.loop-node.invariant
    c.end.ensures)

pub returns-clause-at : goal.returns-clause-at
returns-clause-at c = λ sets rows.
    let nodes : c.nodes-nodes.result ≡ c.args.graph.now.nodes = c.nodes-nodes.ensures.count in
    let end : c.loop-node.node ≡ c.args.graph.now.nodes = (let a = c.loop-node.auto.node-end in omega arith) in
    let places : c.in_ok-vec.field-0.items ≡ replicate c.args.graph.now.nodes New
    = c.in_ok-vec.ensures.items_if_clones_equal (λ y h. h) ∙ ap (λ n. replicate n New) nodes in
    subst (λ fs. IsWalk c.args.graph.now sets c.loop-node.cursors.items c.in_ok-vec.field-0.items
    c.in_ok-with_capacity.field-0.items fs) (sym c.in_ok-with_capacity-2.ensures.items)
    (subst (λ ns. IsWalk c.args.graph.now sets c.loop-node.cursors.items c.in_ok-vec.field-0.items ns [])
    (sym c.in_ok-with_capacity.ensures.items)
    (subst (λ ps. IsWalk c.args.graph.now sets c.loop-node.cursors.items ps [] []) (sym places)
    (begins c.args.graph.now sets c.loop-node.cursors.items
    (subst (λ n. AreEnds c.args.graph.now c.loop-node.cursors.items n) end c.loop-node.invariant)
    (subst (λ n. All (IsInside n) c.args.graph.now.edges) nodes c.nodes-nodes.ensures.inside) rows)))

pub returns-clause-left : goal.returns-clause-left
returns-clause-left c =
    let nodes : c.nodes-nodes.result ≡ c.args.graph.now.nodes = c.nodes-nodes.ensures.count in
    let places : c.in_ok-vec.field-0.items ≡ replicate c.args.graph.now.nodes New
    = c.in_ok-vec.ensures.items_if_clones_equal (λ y h. h) ∙ ap (λ n. replicate n New) nodes in
    let undone : sum_by undone_one c.in_ok-vec.field-0.items ≡ c.args.graph.now.nodes = ap (sum_by undone_one) places
    ∙ all_undone c.args.graph.now.nodes in
    omega (arith, undone, waiting_from-le 0 c.args.graph.now.edges c.loop-node.cursors.items)
