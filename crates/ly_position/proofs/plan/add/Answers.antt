use Rattle.std.proofs.Common.{◌++◌, ◌∷◌, [], ℕ, List, Option, get_or, length-append, arith, subst}
use Rattle.std.proofs.lemmas.List.{get_or_default}
use Rattle.ly_ere.specs.declared.node.Node.TheVariants.{Set}
use Rattle.ly_position.specs.Private.Plain.{Makes, listed}
use Rattle.ly_position.specs.Private.Slim.{slim_node}
use Rattle.ly_position.proofs.PlanLemmas.{more_grown, more_within, more_each}
use Rattle.ly_position.proofs.plan.add.Goals as goal

pub loop-node-preserved : goal.loop-node-preserved
loop-node-preserved c =
    let before = c.loop-node.invariant in
    let nodes = c.nodes-root.result.0.now in
    let i = c.loop-node.node-index in
    let names = c.args.names.now in
    let parts = c.loop-node.parts.items in
    let p = c.in_ok-part.part in
    let n = get_or nodes i (Set (record { words = [] })) in
    let is = get_or_default nodes i (Set (record { words = [] })) n c.loop-node-test.true in
    let made =
    subst (λ (ps : List (Option ℕ)). Makes c.loop-node.plain c.add_node.new.plain p
    (slim_node (listed c.loop-node.plain names) (listed c.loop-node.plain ps) n))
    c.deref.ensures.value c.in_ok-part.ensures in
    rw c.in_ok-push.ensures.items (record {
      rest = before.rest ++ made.rest;
      grown = more_grown c.args.plain.now c.loop-node.plain c.add_node.new.plain before.rest names parts nodes i n p
          before.grown c.requires before.count before.within before.each c.nodes-root.ensures.ordered
          c.loop-node-test.true is made;
      count = omega (arith, length-append parts (p ∷ []), before.count);
      within = more_within c.args.plain.now c.loop-node.plain c.add_node.new.plain before.rest names parts nodes i n p
          before.grown c.requires before.count before.within before.each c.nodes-root.ensures.ordered
          c.loop-node-test.true is made;
      each = more_each c.args.plain.now c.loop-node.plain c.add_node.new.plain before.rest names parts nodes i n p
          before.grown c.requires before.count before.within before.each c.nodes-root.ensures.ordered
          c.loop-node-test.true is made;
    })
