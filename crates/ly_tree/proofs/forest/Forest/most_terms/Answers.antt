use Rattle.std.proofs.Common.{arith}
use Rattle.ly_tree.proofs.LineLemmas.{budget_is}
use Rattle.ly_tree.specs.Private.Grown.{lists_from}
use Rattle.ly_tree.proofs.forest.Forest.most_terms.Goals as goal

pub returns : goal.returns
returns c =
    omega (
      arith,
      c.len.ensures,
      budget_is (lists_from c.self.inside.texts c.self.inside.long_leaves c.self.inside.long_nodes.items)
          c.self.inside.children.items c.args.self.now 1 0
          c.self.view_is,
    )
