-- What follows from the definitions of joining.
use Rattle.std.specs.Prelude.{◌≡◌, ◌↔◌, List, ◌∷◌, [], ◌++◌, AllPairs, Contains}
use Rattle.ly_yaccread.specs.File.{Written}
use Rattle.ly_join.specs.Joined.{Joined, Spec}
use Rattle.ly_join.specs.Numbering.{appearing, left_sides, nonterminals_of, terminals_of}
use Rattle.ly_join.specs.Scanning.{Scanning}
use Rattle.ly_join.specs.Terminals.{end, undefined}

-- two files make at most one specification
abbrev pub JoinedIsOne : Type 0
JoinedIsOne = (x : Scanning) (w : Written) (s t : Spec) → Joined x w s → Joined x w t → s ≡ t

-- the first element appears before the second in the list
abbrev pub AppearsBefore : {X : Type 0} → List X → X → X → Type 0
AppearsBefore {X} xs x y = (front back : List X) × (xs ≡ front ++ x ∷ back) × (Contains (front ++ x ∷ []) y → ⊥)

-- The second list has the elements of the first, in the order of their first appearance, each once.
pub record AreFirst {X : Type 0} (xs ys : List X) : Type 0 where
  pub same : (x : X) → Contains ys x ↔ Contains xs x
  pub order : AllPairs (AppearsBefore xs) ys

-- symbols are numbered by their first appearance
abbrev pub NumberedByFirst : Type 0
NumberedByFirst = (w : Written) → AreFirst (end ∷ undefined ∷ appearing w) (terminals_of w)
    × AreFirst (left_sides w) (nonterminals_of w)
