use Rattle.ly_tree.proofs.OfBytesLemmas.{forest_of_bytes}
use Rattle.ly_tree.proofs.forest.Forest.are_bytes.Goals as goal

pub returns : goal.returns
returns c = forest_of_bytes c.args.self.now c.self.inside.texts c.self.inside.long_leaves
    c.self.inside.long_nodes.items c.self.inside.children.items c.are_bytes.ensures c.lists_are_bytes.ensures
    c.self.view_is
