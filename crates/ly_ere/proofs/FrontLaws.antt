-- A line has at most one pattern at its front.
use Rattle.std.proofs.Common.{subst, sym, take}
use Rattle.ly_ere.specs.Laws.{FrontPatternIsOne}
use Rattle.ly_ere.specs.Names.{Definition}
use Rattle.ly_ere.specs.Patterns.{HasFrontSides, IsFrontPattern, IsPattern, sides_of}
use Rattle.ly_ere.specs.declared.pattern.Pattern.{Pattern}
use Rattle.std.proofs.Common.{ℕ, List}
use Rattle.ly_ere.proofs.PatternLaws.{pattern_one}
use Rattle.ly_ere.proofs.SidesLemmas.{front_sides_one}

-- the sides of a pattern at the front of a line
pub pattern_sides : (names : List Definition) (line : List ℕ) (p : Pattern) (n : ℕ) → IsFrontPattern names line p n
    → HasFrontSides names line (sides_of p) n
pattern_sides names line p n x = record { within = x.within; sides = x.is_pattern.sides; follows = x.follows }

pub front_pattern_one : FrontPatternIsOne
front_pattern_one names line p q n m x y =
    let one = front_sides_one names line (sides_of p) (sides_of q) n m (pattern_sides names line p n x)
    (pattern_sides names line q m y) in (
      pattern_one names (take n line) p q x.is_pattern (subst (λ k. IsPattern names (take k line) q) (sym one.1)
          y.is_pattern),
      one.1,
    )
