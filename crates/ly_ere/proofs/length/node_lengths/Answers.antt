use Rattle.std.proofs.Common.{◌≡◌, ◌∙◌, [], ap, arith, get_or, length, length-append, length-take, subst, sym, take}
use Rattle.ly_base.specs.declared.byte_set.ByteSet.{ByteSet}
use Rattle.ly_ere.specs.Arena.{expression_of, expressions}
use Rattle.ly_ere.specs.Private.Lengths.{Measures}
use Rattle.ly_ere.specs.declared.length.Lengths.{Lengths}
use Rattle.ly_ere.specs.declared.node.Node.{Node}
use Rattle.ly_ere.specs.declared.node.Node.TheVariants.{Set}
use Rattle.ly_ere.proofs.ArenaLemmas.{expressions-take, length-expressions}
use Rattle.ly_ere.proofs.MeasureLemmas.{measures_push, near_push}
use Rattle.ly_ere.proofs.length.node_lengths.Goals as goal

pub loop-node-preserved : goal.loop-node-preserved
loop-node-preserved c =
    let none : ByteSet = record { words = [] } in
    let past : Node = Set none in
    let done = expressions (take c.loop-node.node-index c.args.nodes.now) in
    let node = get_or c.args.nodes.now c.loop-node.node-index past in
    let ls = c.loop-node.lengths.items in
    let more = expressions-take c.args.nodes.now c.loop-node.node-index past c.loop-node-test.true in
    let count : length done ≡ length ls = omega (
      arith,
      length-expressions (take c.loop-node.node-index c.args.nodes.now),
      length-take c.loop-node.node-index c.args.nodes.now,
      c.loop-node.invariant.counted,
      c.loop-node-test.true,
    ) in
    record {
      counted = omega (
        arith,
        ap length c.in_ok-push.ensures.items,
        length-append {A = Lengths},
        c.loop-node.invariant.counted,
      );
      near = rw c.in_ok-push.ensures.items (near_push ls c.lengths_at-here.result c.loop-node.invariant.near
          c.lengths_at-here.ensures.near);
      so_far = λ names named. rw (c.in_ok-push.ensures.items, more)
          (measures_push names done ls (expression_of done node) c.lengths_at-here.result
          (c.loop-node.invariant.so_far names named) count
          (λ sound. c.lengths_at-here.ensures.lengths names done named
          (subst (Measures names done) (sym c.deref.ensures.value) (c.loop-node.invariant.so_far names named))
          (count ∙ ap length (sym c.deref.ensures.value)) sound));
    }
