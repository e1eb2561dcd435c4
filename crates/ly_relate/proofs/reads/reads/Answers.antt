use Rattle.std.proofs.Common.{◌∙◌, ap, arith, length}
use Rattle.ly_relate.specs.Related.{IsRead}
use Rattle.ly_relate.proofs.ReadLemmas.{edges_all, edges_below_more, edges_below_none, read_within}
use Rattle.ly_relate.proofs.reads.reads.Goals as goal

pub loop-goto-init : goal.loop-goto-init
loop-goto-init c = record {
  nodes = ap (λ g. g.nodes) c.in_ok-graph.ensures ∙ c.len.ensures.count;
  edges = edges_below_none (IsRead c.args.gotos.now.automaton c.args.gotos.now.gotos) c.in_ok-graph.graph
      (ap (λ g. g.edges) c.in_ok-graph.ensures);
}

pub loop-goto-preserved : goal.loop-goto-preserved
loop-goto-preserved c = record {
  nodes = c.in_ok-add_reads.ensures.nodes ∙ c.loop-goto.invariant.nodes;
  edges = edges_below_more (IsRead c.args.gotos.now.automaton c.args.gotos.now.gotos) c.loop-goto.graph
      c.add_reads.new.graph c.loop-goto.goto c.loop-goto.invariant.edges c.in_ok-add_reads.ensures.edges;
}

pub returns : goal.returns
returns c =
    let n = c.args.gotos.now in
    let past = c.loop-goto-test.false in
    let count = c.len-goto-end.ensures.count in
    record {
      nodes = c.loop-goto.invariant.nodes;
      edges = edges_all (IsRead n.automaton n.gotos) c.loop-goto.graph c.loop-goto.goto (length n.gotos)
          (omega (arith, past, count)) (read_within n) c.loop-goto.invariant.edges;
    }
