use Rattle.ly_tree.proofs.GrownLemmas.{short_inside, short_is}
use Rattle.ly_tree.specs.Private.Grown.{lists_from}
use Rattle.ly_tree.proofs.forest.Forest.short_text.Goals as goal

pub front-requires : goal.front-requires
front-requires c = short_inside
    (lists_from c.self.inside.texts c.self.inside.long_leaves c.self.inside.long_nodes.items)
    c.self.inside.children.items c.args.self.now c.args.length c.args.terminal c.args.start c.self.view_is c.requires

pub returns : goal.returns
returns c =
    short_is (lists_from c.self.inside.texts c.self.inside.long_leaves c.self.inside.long_nodes.items) c.front.result
    c.self.inside.children.items
    c.args.self.now c.args.length c.args.terminal c.args.start c.self.view_is c.requires c.front.ensures
