use Rattle.std.proofs.Common.{◌∙◌, ◌+◌, ◌*◌, ap, arith, length, map}
use Rattle.std.proofs.lemmas.List.{length-map}
use Rattle.ly_tree.proofs.CostLemmas.{node_pays}
use Rattle.ly_tree.proofs.GrownLemmas.{node_keeps, node_known, node_stands}
use Rattle.ly_tree.proofs.PickLemmas.{body_stands}
use Rattle.ly_tree.proofs.StandLemmas.{stand_all_known}
use Rattle.ly_tree.specs.Costs.{budget}
use Rattle.ly_tree.specs.Forest.{terms_of}
use Rattle.ly_tree.specs.Private.Headed.{ref_at}
use Rattle.ly_tree.specs.Term.{at_places}
use Rattle.ly_tree.specs.Private.Grown.{lists_from}
use Rattle.ly_tree.proofs.forest.Forest.node.Goals as goal

pub invariant_of-self-2 : goal.invariant_of-self-2
invariant_of-self-2 g c =
    let picked = map (ref_at (map g.R.Refers.referred c.args.body.now)) c.args.places.now in
    node_known (lists_from c.self.inside.texts c.self.inside.long_leaves c.self.inside.long_nodes.items)
    c.self.inside.children.items c.pick.new.children.items picked c.args.self.now c.self.invariant c.self.view_is
    (stand_all_known c.args.self.now picked _ (body_stands g.R.Refers.referred c.args.body.now c.args.self.now
    c.args.places.now c.requires.known c.requires.places)) c.in_ok-pick.ensures.ok

pub returns-clause-stands : goal.returns-clause-stands
returns-clause-stands g c =
    let refs = map g.R.Refers.referred c.args.body.now in
    node_stands (lists_from c.self.inside.texts c.self.inside.long_leaves c.self.inside.long_nodes.items)
    c.self.inside.children.items
    c.pick.new.children.items (map (ref_at refs) c.args.places.now) c.args.self.now _ c.args.rule.0
    c.len-start.result (at_places (terms_of c.args.self.now refs) c.args.places.now) c.self.invariant
    c.self.view_is c.in_ok-pick.ensures.ok (omega arith)
    (omega (arith, length-map c.args.places.now (ref_at refs)))
    (body_stands g.R.Refers.referred c.args.body.now c.args.self.now c.args.places.now c.requires.known
    c.requires.places)

pub returns-clause-keeps : goal.returns-clause-keeps
returns-clause-keeps g c =
    node_keeps (lists_from c.self.inside.texts c.self.inside.long_leaves c.self.inside.long_nodes.items)
    c.self.inside.children.items
    c.pick.new.children.items (map (ref_at (map g.R.Refers.referred c.args.body.now)) c.args.places.now)
    c.args.self.now c.self.view_is c.in_ok-pick.ensures.ok

pub returns-clause-pays : goal.returns-clause-pays
returns-clause-pays g c each byte =
    let at = ref_at (map g.R.Refers.referred c.args.body.now) in
    node_pays (lists_from c.self.inside.texts c.self.inside.long_leaves c.self.inside.long_nodes.items)
    c.self.inside.children.items
    c.pick.new.children.items (map at c.args.places.now) c.args.self.now each byte c.self.view_is
    c.in_ok-pick.ensures.ok
    ∙ ap (λ n. budget each byte c.args.self.now + each * n) (length-map c.args.places.now at)

pub long_node-requires-clause-number : goal.long_node-requires-clause-number
long_node-requires-clause-number g c =
    omega (arith, c.in_ok-high.ensures, c.len.ensures, ap (λ f. length f.lists.long_nodes) c.self.view_is)
