use Rattle.std.proofs.Common.{◌≡◌, ◌∙◌, ◌+◌, ◌<◌, ◌++◌, ◌∷◌, [], ap, sym, subst, arith, length, set, get_or}
use Rattle.ly_digraph.specs.Graph.{IsEdgeList}
use Rattle.ly_digraph.specs.declared.graph.Edge.{Edge}
use Rattle.ly_digraph.proofs.GraphLemmas.{linked_push}
use Rattle.ly_digraph.proofs.StepLemmas.{read_is}
use Rattle.ly_digraph.proofs.graph.Graph.add.Goals as goal

pub invariant_of-self-2 : goal.invariant_of-self-2
invariant_of-self-2 c =
    let nodes : length c.self.inside.ends.items ≡ c.args.self.now.nodes = sym c.self.inside.ends.ok.0
    ∙ ap (λ g. g.nodes) c.self.view_is in
    let from_in : c.args.from < length c.self.inside.ends.items = (let h = c.requires.0 in omega arith) in
    let to_in : c.args.to < length c.self.inside.ends.items = (let h = c.requires.1 in omega arith) in
    let before : get_or c.self.inside.ends.items c.args.from 0 ≡ c.index.result.now
    = read_is c.self.inside.ends.items c.args.from c.index.result.now 0 from_in c.index.ensures in
    let edge : Edge = record {
      from = c.in_ok-source.source;
      to = c.in_ok-target.target;
      before = c.index.result.now;
    } in
    let items : c.push.new.self.items ≡ c.self.inside.edges.items ++ edge ∷ [] = c.in_ok-push.ensures.items in
    let len : c.in_ok-end.end ≡ length c.self.inside.edges.items + 1 = c.in_ok-end.ensures
    ∙ ap (λ n. n + 1) (c.len.ensures ∙ c.self.inside.edges.ok.0) in
    subst (λ es. IsEdgeList (set c.self.inside.ends.items c.args.from c.in_ok-end.end) es) (sym items)
    (subst (λ n. IsEdgeList (set c.self.inside.ends.items c.args.from n) (c.self.inside.edges.items ++ edge ∷ []))
    (sym len)
    (subst (λ b. IsEdgeList (set c.self.inside.ends.items c.args.from (length c.self.inside.edges.items + 1))
    (c.self.inside.edges.items ++ record {
      from = c.in_ok-source.source;
      to = c.in_ok-target.target;
      before = b;
    } ∷ [])) before
    (subst (λ p. IsEdgeList (set c.self.inside.ends.items c.args.from (length c.self.inside.edges.items + 1))
    (c.self.inside.edges.items ++ record {
      from = p;
      to = c.in_ok-target.target;
      before = get_or c.self.inside.ends.items c.args.from 0;
    } ∷ [])) (sym c.in_ok-source.ensures)
    (subst (λ q. IsEdgeList (set c.self.inside.ends.items c.args.from (length c.self.inside.edges.items + 1))
    (c.self.inside.edges.items ++ record {
      from = c.args.from;
      to = q;
      before = get_or c.self.inside.ends.items c.args.from 0;
    } ∷ [])) (sym c.in_ok-target.ensures)
    (linked_push c.self.invariant c.args.from c.args.to from_in to_in)))))
