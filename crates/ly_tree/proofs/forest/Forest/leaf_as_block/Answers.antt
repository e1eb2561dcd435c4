use Rattle.std.proofs.Common.{[]}
use Rattle.ly_tree.proofs.CostLemmas.{short_pays}
use Rattle.ly_tree.proofs.GrownLemmas.{lists_keep, lists_known, short_joined, short_stands}
use Rattle.ly_tree.specs.Private.Grown.{lists_from}
use Rattle.ly_tree.proofs.forest.Forest.leaf_as_block.Goals as goal

pub invariant_of-self-2 : goal.invariant_of-self-2
invariant_of-self-2 c =
    lists_known (lists_from c.self.inside.texts c.self.inside.long_leaves c.self.inside.long_nodes.items)
    (record { texts = c.args.text.now; long_leaves = []; long_nodes = [] })
    (lists_from c.push_block.new.self c.self.inside.long_leaves c.self.inside.long_nodes.items)
    c.self.inside.children.items c.self.invariant (short_joined c.self.inside.texts c.push_block.new.self
    c.args.text.now c.self.inside.long_leaves c.self.inside.long_nodes.items c.in_ok-start.ensures.texts)

pub returns-clause-stands : goal.returns-clause-stands
returns-clause-stands c =
    short_stands c.self.inside.texts c.push_block.new.self c.args.text.now c.self.inside.long_leaves
    c.self.inside.long_nodes.items c.self.inside.children.items c.len-length.result c.args.terminal.0
    c.in_ok-start.start c.in_ok-start.ensures.texts c.in_ok-start.ensures.begins c.len-length.ensures

pub returns-clause-keeps : goal.returns-clause-keeps
returns-clause-keeps c =
    lists_keep (lists_from c.self.inside.texts c.self.inside.long_leaves c.self.inside.long_nodes.items)
    (record { texts = c.args.text.now; long_leaves = []; long_nodes = [] })
    (lists_from c.push_block.new.self c.self.inside.long_leaves c.self.inside.long_nodes.items)
    c.self.inside.children.items c.args.self.now c.self.invariant c.self.view_is
    (short_joined c.self.inside.texts c.push_block.new.self c.args.text.now c.self.inside.long_leaves
    c.self.inside.long_nodes.items c.in_ok-start.ensures.texts)

pub returns-clause-pays : goal.returns-clause-pays
returns-clause-pays c each byte =
    short_pays c.self.inside.texts c.push_block.new.self c.args.text.now c.self.inside.long_leaves
    c.self.inside.long_nodes.items c.self.inside.children.items
    c.args.self.now each byte c.self.invariant c.self.view_is c.in_ok-start.ensures.texts
