use Rattle.std.proofs.Common.{◌≡◌, ◌++◌, ◌∷◌, [], ap, arith, get_or, length, length-take, map, sym, take, ◌∙◌}
use Rattle.std.proofs.lemmas.List.{length-map, map-append}
use Rattle.ly_base.specs.declared.byte_set.ByteSet.{ByteSet}
use Rattle.ly_ere.specs.Arena.{expression_of, expressions}
use Rattle.ly_ere.specs.Private.Uses.{number_for, renumbered}
use Rattle.ly_ere.specs.declared.node.Node.{Node}
use Rattle.ly_ere.specs.declared.node.Node.TheVariants.{Set}
use Rattle.ly_ere.proofs.ArenaLemmas.{expressions-take, length-expressions}
use Rattle.ly_ere.proofs.uses.renumber.Goals as goal

pub push-requires : goal.push-requires
push-requires c =
    let nodes = c.nodes-root.result.0.now in
    let i = c.loop-node.node-index in
    let R = renumbered (number_for c.args.numbers.now) in
    let long : length c.loop-node.arena ≡ i
    = omega (
      arith,
      ap length c.loop-node.invariant.so_far,
      length-map (expressions (take i nodes)) R,
      length-expressions (take i nodes),
      length-take i nodes,
      c.loop-node-test.true,
    ) in
    rw long (c.with_number.ensures.fits i (c.nodes-root.ensures.ordered i _ c.loop-node-test.true))

pub loop-node-preserved : goal.loop-node-preserved
loop-node-preserved c =
    let nodes = c.nodes-root.result.0.now in
    let i = c.loop-node.node-index in
    let R = renumbered (number_for c.args.numbers.now) in
    let done = expressions (take i nodes) in
    let none : ByteSet = record { words = [] } in
    let past : Node = Set none in
    let node = get_or nodes i past in
    let this : expression_of (map R done) c.with_number.result ≡ R (expression_of done node)
    = c.with_number.ensures.expression done in
    record {
      so_far = c.in_ok-push.ensures.ok
          ∙ (ap (λ a. a ++ expression_of a c.with_number.result ∷ []) c.loop-node.invariant.so_far
          ∙ (ap (λ e. map R done ++ e ∷ []) this
          ∙ (sym (map-append R done (expression_of done node ∷ []))
          ∙ ap (map R) (sym (expressions-take nodes i past c.loop-node-test.true)))));
    }

pub of-requires : goal.of-requires
of-requires c =
    let nodes = c.nodes-root.result.0.now in
    let i = c.loop-node.node-index in
    omega (
      arith,
      ap length c.loop-node.invariant.so_far,
      length-map (expressions (take i nodes)) (renumbered (number_for c.args.numbers.now)),
      length-expressions (take i nodes),
      length-take i nodes,
      c.loop-node-test.false,
      c.nodes-root.ensures.within,
    )
