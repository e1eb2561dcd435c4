use Rattle.std.proofs.Common.{◌∙◌, ap, arith, []}
use Rattle.ly_digraph.specs.Digraph.{Digraph}
use Rattle.ly_counterexamples.specs.Private.FirstBytes.{Moves}
use Rattle.ly_counterexamples.proofs.FirstByteLemmas.{all_moves, edges_added}
use Rattle.ly_counterexamples.proofs.first_bytes.moves.Goals as goal

pub loop-state-preserved : goal.loop-state-preserved
loop-state-preserved c = edges_added (Moves c.args.dfa.now) c.loop-state.state c.in_ok-graph.graph c.loop-state.graph
    c.add_moves.new.graph c.loop-state.invariant c.in_ok-add_moves.ensures

pub returns : goal.returns
returns c = all_moves c.args.dfa.now c.loop-state.state c.in_ok-graph.graph c.loop-state.graph
    (let end = c.in_ok-state-end.ensures.count in let past = c.loop-state-test.false in omega (arith, end, past))
    (c.in_ok-graph.ensures ∙ ap (λ n. let g : Digraph = record { nodes = n; edges = [] } in g) c.len.ensures.count)
    c.loop-state.invariant
