use Rattle.std.proofs.Common.{◌<◌, ℕ, List, length, ◌∙◌, ap, arith}
use Rattle.std.specs.Prelude.{min}
use Rattle.ly_position.specs.Private.Program.{most_counted, node_size}
use Rattle.ly_position.proofs.CompileLemmas.{sizes_more}
use Rattle.ly_position.proofs.program.sizes.Goals as goal

pub loop-number-preserved : goal.loop-number-preserved
loop-number-preserved c =
    let less : c.loop-number.number < length c.args.plain.now = omega arith in
    sizes_more c.args.plain.now c.loop-number.sizes.items c.push.new.self.items c.loop-number.number
    c.counted_size.result c.node.result
    c.loop-number.invariant less c.node.ensures.fits c.node.ensures.is
    (c.counted_size.ensures ∙ ap (λ (ss : List ℕ). min (node_size ss c.node.result) most_counted)
    c.deref.ensures.value) c.in_ok-push.ensures.items
