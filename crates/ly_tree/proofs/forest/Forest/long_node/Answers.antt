use Rattle.std.proofs.Common.{◌∙◌, ◌+◌, ◌*◌, ◌++◌, [], ◌∷◌, ap, arith, length, map, sym}
use Rattle.std.proofs.lemmas.List.{length-map}
use Rattle.ly_tree.proofs.CostLemmas.{long_node_pays}
use Rattle.ly_tree.proofs.GrownLemmas.{long_node_keeps, long_node_known, long_node_stands}
use Rattle.ly_tree.proofs.PickLemmas.{body_stands}
use Rattle.ly_tree.proofs.StandLemmas.{stand_all_known}
use Rattle.ly_tree.specs.Costs.{budget}
use Rattle.ly_tree.specs.Forest.{terms_of}
use Rattle.ly_tree.specs.Private.Headed.{ref_at}
use Rattle.ly_tree.specs.Term.{at_places}
use Rattle.ly_tree.specs.declared.node_span.NodeSpan.{NodeSpan}
use Rattle.ly_tree.proofs.forest.Forest.long_node.Goals as goal

pub invariant_of-self-2 : goal.invariant_of-self-2
invariant_of-self-2 g c =
    let span : NodeSpan
    = record { rule = c.args.rule; start = c.len-start.result; count = length c.args.places.now } in
    let picked = map (ref_at (map g.R.Refers.referred c.args.body.now)) c.args.places.now in
    long_node_known c.self.inside.texts c.self.inside.long_leaves c.self.inside.long_nodes.items
    c.push_reserved.new.self.items c.self.inside.children.items c.pick.new.children.items picked c.args.self.now span
    c.self.invariant c.self.view_is c.in_ok-pick.ensures.ok
    (c.push_reserved.ensures.items ∙ ap (λ xs. xs ++ span ∷ []) c.in_ok-reserve.ensures.items)
    (stand_all_known c.args.self.now picked _ (body_stands g.R.Refers.referred c.args.body.now c.args.self.now
    c.args.places.now c.requires.known c.requires.places))

pub returns-clause-stands : goal.returns-clause-stands
returns-clause-stands g c =
    let span : NodeSpan
    = record { rule = c.args.rule; start = c.len-start.result; count = length c.args.places.now } in
    let refs = map g.R.Refers.referred c.args.body.now in
    long_node_stands c.self.inside.texts c.self.inside.long_leaves c.self.inside.long_nodes.items
    c.push_reserved.new.self.items c.self.inside.children.items c.pick.new.children.items
    (map (ref_at refs) c.args.places.now) c.args.self.now span c.self.invariant c.self.view_is c.in_ok-pick.ensures.ok
    (c.push_reserved.ensures.items ∙ ap (λ xs. xs ++ span ∷ []) c.in_ok-reserve.ensures.items) c.args.high
    c.args.low (at_places (terms_of c.args.self.now refs) c.args.places.now) (omega arith)
    (omega (arith, length-map c.args.places.now (ref_at refs)))
    (c.requires.number ∙ ap (λ f. length f.lists.long_nodes) (sym c.self.view_is))
    (body_stands g.R.Refers.referred c.args.body.now c.args.self.now c.args.places.now c.requires.known
    c.requires.places)

pub returns-clause-keeps : goal.returns-clause-keeps
returns-clause-keeps g c =
    let span : NodeSpan
    = record { rule = c.args.rule; start = c.len-start.result; count = length c.args.places.now } in
    let picked = map (ref_at (map g.R.Refers.referred c.args.body.now)) c.args.places.now in
    long_node_keeps c.self.inside.texts c.self.inside.long_leaves c.self.inside.long_nodes.items
    c.push_reserved.new.self.items c.self.inside.children.items c.pick.new.children.items picked c.args.self.now span
    c.self.invariant c.self.view_is c.in_ok-pick.ensures.ok
    (c.push_reserved.ensures.items ∙ ap (λ xs. xs ++ span ∷ []) c.in_ok-reserve.ensures.items)
    (stand_all_known c.args.self.now picked _ (body_stands g.R.Refers.referred c.args.body.now c.args.self.now
    c.args.places.now c.requires.known c.requires.places))

pub returns-clause-pays : goal.returns-clause-pays
returns-clause-pays g c each byte =
    let span : NodeSpan
    = record { rule = c.args.rule; start = c.len-start.result; count = length c.args.places.now } in
    let at = ref_at (map g.R.Refers.referred c.args.body.now) in
    let picked = map at c.args.places.now in
    long_node_pays c.self.inside.texts c.self.inside.long_leaves c.self.inside.long_nodes.items
    c.push_reserved.new.self.items c.self.inside.children.items c.pick.new.children.items picked c.args.self.now span
    each byte c.self.invariant c.self.view_is
    (stand_all_known c.args.self.now picked _ (body_stands g.R.Refers.referred c.args.body.now c.args.self.now
    c.args.places.now c.requires.known c.requires.places)) c.in_ok-pick.ensures.ok
    (c.push_reserved.ensures.items ∙ ap (λ xs. xs ++ span ∷ []) c.in_ok-reserve.ensures.items)
    ∙ ap (λ n. budget each byte c.args.self.now + each * n) (length-map c.args.places.now at)
