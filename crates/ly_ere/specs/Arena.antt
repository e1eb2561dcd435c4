-- A list of nodes as the list of their expressions.
use Rattle.std.specs.Prelude.{◌≢◌, ℕ, ◌<◌, List, [], ◌∷◌, ◌++◌, length, slice_index_or}
use Rattle.ly_base.specs.ByteSet.{members}
use Rattle.ly_ere.specs.Expression.{Expression, set, empty, concat, either, star, plus, optional, repeat, name}
use Rattle.ly_ere.specs.declared.node.Node.{Node}
use Rattle.ly_ere.specs.declared.node.Node.TheVariants.{Set, Empty, Concat, Either, Star, Plus, Optional, Repeat, Name}

-- the operand with this number among the expressions so far
abbrev pub part_of : List Expression → ℕ → Expression
part_of done a = slice_index_or done a empty

-- the expression of a node, given those of the nodes before it
abbrev pub expression_of : List Expression → Node → Expression
expression_of done (Set s) = set (members s)
expression_of done Empty = empty
expression_of done (Concat a b) = concat (part_of done a) (part_of done b)
expression_of done (Either a b) = either (part_of done a) (part_of done b)
expression_of done (Star a) = star (part_of done a)
expression_of done (Plus a) = plus (part_of done a)
expression_of done (Optional a) = optional (part_of done a)
expression_of done (Repeat m n a) = repeat m n (part_of done a)
expression_of done (Name x) = name x

-- the expressions so far, followed by those of these nodes
abbrev pub expressions_from : List Expression → List Node → List Expression
expressions_from done [] = done
expressions_from done (n ∷ ns) = expressions_from (done ++ expression_of done n ∷ []) ns

-- the expressions of nodes
abbrev pub expressions : List Node → List Expression
expressions ns = expressions_from [] ns

-- the operands of a node are below this number, and a set has a member
abbrev pub FitsAt : ℕ → Node → Type 0
FitsAt k (Set s) = members s ≢ []
FitsAt k Empty = Unit {0}
FitsAt k (Concat a b) = (a < k) × (b < k)
FitsAt k (Either a b) = (a < k) × (b < k)
FitsAt k (Star a) = a < k
FitsAt k (Plus a) = a < k
FitsAt k (Optional a) = a < k
FitsAt k (Repeat m n a) = a < k
FitsAt k (Name x) = Unit {0}

-- every node's operands come before it, and every set has a member
abbrev pub IsOrdered : List Node → Type 0
IsOrdered ns = (k : ℕ) (d : Node) → k < length ns → FitsAt k (slice_index_or ns k d)
