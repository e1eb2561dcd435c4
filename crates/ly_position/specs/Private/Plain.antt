-- Plain expressions and their parts.
use Rattle.std.specs.Prelude.{◌≡◌, ℕ, ◌<◌, List, ◌++◌, length, slice_index_or, Option, Some, None}
use Rattle.ly_ere.specs.Expression.{Expression}
use Rattle.ly_ere.specs.Arena.{part_of}
use Rattle.ly_ere.specs.declared.node.Node.{Node}
use Rattle.ly_ere.specs.declared.node.Node.TheVariants.{Set, Empty, Concat, Either, Star, Plus, Optional, Repeat, Name}

-- the expression of a part, if it has one
abbrev pub expression_at : List Expression → Option ℕ → Option Expression
expression_at es None = None
expression_at es (Some a) = Some (part_of es a)

-- the expression of the part at a place of a list; there is none past its end
abbrev pub listed : List Expression → List (Option ℕ) → ℕ → Option Expression
listed es parts x = expression_at es (slice_index_or parts x None)

-- the part is one of the first n expressions, or none
abbrev pub IsPlainPart : ℕ → Option ℕ → Type 0
IsPlainPart n None = Unit {0}
IsPlainPart n (Some a) = a < n

-- the expressions grow, and the part has this expression
pub record Makes (old new : List Expression) (part : Option ℕ) (expression : Option Expression) : Type 0 where
  pub rest : List Expression
  pub grown : new ≡ old ++ rest
  pub within : IsPlainPart (length new) part
  pub is : expression_at new part ≡ expression

-- the node is no name and no interval
abbrev pub IsPlainNode : Node → Type 0
IsPlainNode (Set s) = Unit {0}
IsPlainNode Empty = Unit {0}
IsPlainNode (Concat a b) = Unit {0}
IsPlainNode (Either a b) = Unit {0}
IsPlainNode (Star a) = Unit {0}
IsPlainNode (Plus a) = Unit {0}
IsPlainNode (Optional a) = Unit {0}
IsPlainNode (Repeat m n a) = ⊥
IsPlainNode (Name x) = ⊥
