use Rattle.std.proofs.Common.{subst, sym}
use Rattle.ly_tree.proofs.ChildLemmas.{children_stand}
use Rattle.ly_tree.specs.Look.{AreChildren}
use Rattle.ly_tree.specs.Private.Grown.{lists_from}
use Rattle.ly_tree.proofs.forest.Forest.children.Goals as goal

pub returns : goal.returns
returns c =
    subst (AreChildren c.args.self.now) (sym c.deref.ensures.value)
    (children_stand (lists_from c.self.inside.texts c.self.inside.long_leaves c.self.inside.long_nodes.items)
    c.self.inside.children.items c.args.self.now c.self.invariant c.self.view_is)
