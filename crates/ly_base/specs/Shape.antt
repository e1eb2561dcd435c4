-- What a rule of a grammar makes of the trees of its body.
use Rattle.std.specs.Prelude.{ℕ, List}
use Rattle.ly_base.specs.declared.rule_tree.RuleTree.{RuleTree}
use Rattle.ly_base.specs.declared.rule_tree.RuleTree.TheVariants.{Nil, Pass, Build}

-- What the tree of a rule is: the empty tree, the tree of one symbol of its body, or a node of this constructor with
-- the trees of these symbols as children. Symbols count from 1.
pub data Shape : Type 0 where
  nil : Shape
  place : ℕ → Shape
  node : List ℕ → List ℕ → Shape

-- the shape of a rule tree, whatever the capacity of its lists
abbrev pub shape_of : RuleTree → Shape
shape_of Nil = nil
shape_of (Pass p) = place p
shape_of (Build n ps) = node n.items ps.items
