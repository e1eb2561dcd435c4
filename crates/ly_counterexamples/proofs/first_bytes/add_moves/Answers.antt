use Rattle.std.proofs.Common.{arith}
use Rattle.ly_counterexamples.specs.Private.FirstBytes.{MovesByClass}
use Rattle.ly_counterexamples.proofs.FirstByteLemmas.{edge_added, edges_added, no_edge_added, same_moves}
use Rattle.ly_counterexamples.proofs.first_bytes.add_moves.Goals as goal
use Rattle.ly_counterexamples.proofs.first_bytes.add_moves.Goals.{in-Some+in_ok-add, in_default}

pub loop-class-preserved : goal.loop-class-preserved
loop-class-preserved c =
    let A = c.args.dfa.now in
    let s = c.args.state in
    let P = MovesByClass A s in
    let k = c.loop-class.class in
    let old = c.loop-class.graph in
    elim c.match-next.branch [
      | in-Some+in_ok-add w ↦
          rw w.graph-is (edges_added P k c.args.graph.now old w.add.new.self c.loop-class.invariant
          (edge_added (P k) old w.add.new.self s w.in-Some.next w.in_ok-add.ensures.ok
          (λ i j. (
            λ move. (move.0, let at = move.1 in let is = w.in-Some.is in let to = c.next.ensures.state in cc),
            λ both. (both.0, let same = both.1 in let is = w.in-Some.is in let to = c.next.ensures.state in cc),
          ))))
      | in_default w ↦ rw w.graph-is (edges_added P k c.args.graph.now old old c.loop-class.invariant
          (no_edge_added (P k) old (λ i j move.
          let at = move.1 in let is = w.in_default.is in let to = c.next.ensures.state in cc)))
    ]

pub returns : goal.returns
returns c = same_moves c.args.dfa.now c.args.state c.loop-class.class c.args.graph.now c.loop-class.graph
    (let end = c.classes-class-end.ensures in let past = c.loop-class-test.false in omega (arith, end, past))
    c.loop-class.invariant
