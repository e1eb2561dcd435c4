use Rattle.std.proofs.Common.{◌∙◌, ap, arith, drop, length, take}
use Rattle.ly_tree.proofs.GrownLemmas.{node_inside, node_is}
use Rattle.ly_tree.specs.Private.Grown.{lists_from}
use Rattle.ly_tree.proofs.forest.Forest.children_of.Goals as goal

pub part-requires : goal.part-requires
part-requires c =
    let within = node_inside (lists_from c.self.inside.texts c.self.inside.long_leaves c.self.inside.long_nodes.items)
    c.self.inside.children.items
    c.args.self.now c.args.children c.args.rule.0 c.args.start c.self.invariant c.self.view_is c.requires in
    omega (arith, within, ap length c.deref.ensures.value)

pub returns-clause-term : goal.returns-clause-term
returns-clause-term c =
    (node_is (lists_from c.self.inside.texts c.self.inside.long_leaves c.self.inside.long_nodes.items)
    c.self.inside.children.items c.part.result.now
    c.args.self.now c.args.children c.args.rule.0 c.args.start c.self.invariant c.self.view_is c.requires
    (c.part.ensures ∙ ap (λ xs. take c.args.children (drop c.args.start xs)) c.deref.ensures.value)).term

pub returns-clause-known : goal.returns-clause-known
returns-clause-known c =
    (node_is (lists_from c.self.inside.texts c.self.inside.long_leaves c.self.inside.long_nodes.items)
    c.self.inside.children.items c.part.result.now
    c.args.self.now c.args.children c.args.rule.0 c.args.start c.self.invariant c.self.view_is c.requires
    (c.part.ensures ∙ ap (λ xs. take c.args.children (drop c.args.start xs)) c.deref.ensures.value)).known
