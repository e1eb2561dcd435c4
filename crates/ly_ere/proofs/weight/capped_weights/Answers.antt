use Rattle.std.proofs.Common.{◌∙◌, ◌++◌, ◌∷◌, [], ap, ap₂, sym, arith, length, take, get_or, map, length-append, ℕ}
use Rattle.std.specs.Prelude.{min}
use Rattle.std.proofs.lemmas.List.{map-append, take_all}
use Rattle.ly_ere.specs.declared.node.Node.TheVariants.{Set}
use Rattle.ly_ere.specs.declared.node.Node.{Node}
use Rattle.ly_base.specs.declared.byte_set.ByteSet.{ByteSet}
use Rattle.ly_ere.specs.Arena.{expressions, expression_of}
use Rattle.ly_ere.specs.Expression.{Expression}
use Rattle.ly_ere.specs.Weight.{weight_at}
use Rattle.ly_ere.specs.Weight.{weight_under}
use Rattle.ly_ere.proofs.ArenaLemmas.{expressions-take}
use Rattle.ly_ere.proofs.WeightLemmas.{push_capped}
use Rattle.ly_ere.proofs.weight.capped_weights.Goals as goal

pub loop-node-preserved : goal.loop-node-preserved
loop-node-preserved c =
    let f : Expression → ℕ = λ e. min (weight_under (weight_at c.args.named.now) e) c.args.cap in
    let none : ByteSet = record { words = [] } in
    let past : Node = Set none in
    let done = expressions (take c.loop-node.node-index c.args.nodes.now) in
    let node = get_or c.args.nodes.now c.loop-node.node-index past in
    let this = c.node_weight-weight.ensures.weight done (c.deref.ensures.value ∙ c.loop-node.invariant.so_far) in
    let more = expressions-take c.args.nodes.now c.loop-node.node-index past c.loop-node-test.true in
    record {
      counted = omega (
        arith,
        ap length c.in_ok-push.ensures.items,
        length-append {A = ℕ},
        c.loop-node.invariant.counted,
      );
      capped = λ k. rw c.in_ok-push.ensures.items
          (push_capped c.loop-node.weights.items c.node_weight-weight.result c.args.cap k c.loop-node.invariant.capped
          c.node_weight-weight.ensures.capped);
      so_far = c.in_ok-push.ensures.items ∙ ap₂ (λ ws w. ws ++ w ∷ []) c.loop-node.invariant.so_far this
          ∙ sym (map-append f done (expression_of done node ∷ [])) ∙ ap (map f) (sym more);
    }

pub returns-clause-weights : goal.returns-clause-weights
returns-clause-weights c = c.loop-node.invariant.so_far
    ∙ ap (λ ns. map (λ e. min (weight_under (weight_at c.args.named.now) e) c.args.cap) (expressions ns))
    (take_all c.loop-node.node-index c.args.nodes.now c.loop-node-test.false)
