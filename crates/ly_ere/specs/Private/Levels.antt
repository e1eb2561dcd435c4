-- A group that is being read.
use Rattle.std.specs.Prelude.{◌≡◌, ℕ, ◌<◌, List, [], ◌∷◌, ◌++◌, Option, Some, None}
use Rattle.std.specs.Option.{ForSome}
use Rattle.ly_ere.specs.Arena.{part_of}
use Rattle.ly_ere.specs.Expression.{Expression, star, plus, optional}
use Rattle.ly_ere.specs.Private.Groups.{Group, Reading}
use Rattle.ly_ere.specs.declared.level.Level.{Level}
use Rattle.ly_ere.specs.declared.element.Postfix.{Postfix}
use Rattle.ly_ere.specs.declared.element.Postfix.TheVariants.{Asterisk, PlusSign, QuestionMark}

-- the parts of the group are below n
pub record ArePartsBelow (n : ℕ) (l : Level) : Type 0 where
  pub either : ForSome l.either (λ k. k < n)
  pub branch : ForSome l.branch (λ k. k < n)
  pub piece : ForSome l.piece (λ k. k < n)

-- expressions were added behind those that were there
abbrev pub IsExtended : List Expression → List Expression → Type 0
IsExtended old new = (more : List Expression) × (new ≡ old ++ more)

-- the part that a number names, if there is one
abbrev pub seen : List Expression → Option ℕ → Option Expression
seen arena None = None
seen arena (Some n) = Some (part_of arena n)

-- the group that a level stands for
abbrev pub group_of : List Expression → Level → Group
group_of arena l = record { before = seen arena l.either; branch = seen arena l.branch; piece = seen arena l.piece }

-- the groups that levels stand for, from the last to the first
abbrev pub groups_of : List Expression → List Level → List Group
groups_of arena [] = []
groups_of arena (l ∷ ls) = groups_of arena ls ++ group_of arena l ∷ []

-- what is read, by the levels round the innermost one, and that one
abbrev pub reading_of : List Expression → List Level → Level → Reading
reading_of arena outer level = record { outer = groups_of arena outer; group = group_of arena level }

-- what an operator makes of its operand
abbrev pub operated : Postfix → Expression → Expression
operated Asterisk e = star e
operated PlusSign e = plus e
operated QuestionMark e = optional e
