-- What it means that a scanner agrees with the rules of a lex file.
use Rattle.std.specs.Prelude.{◌≡◌, ℕ, ◌≤◌, List, [], slice_get, Bool, Some, IsSome}
use Rattle.ly_ere.specs.Expression.{Expression, Matches}
use Rattle.ly_ere.specs.declared.pattern.Rule.{Rule}
use Rattle.ly_ere.specs.Winner.{AreCut, IsString}
use Rattle.ly_scan.specs.Lexer.{Scanner}

-- the pattern before the trailing context of a rule doesn't match the empty string
abbrev pub HaveBytes : List Expression → List Rule → Type 0
HaveBytes names rules =
    (i : ℕ) (r : Rule) → slice_get rules i ≡ Some r → IsSome r.pattern.tail → Matches names r.pattern.head [] → ⊥

-- If the walk has a rule, it is the least rule that the string belongs to. If the string belongs to a rule, the walk
-- has one. What is cut off a rule's matches is its pattern's cut.
pub record Agrees (names : List Expression) (rules : List Rule) (scanner : Scanner) : Type 0 where
  pub belongs : (condition : ℕ) (line : Bool) (w : List ℕ) (i : ℕ) → scanner.walk condition line w ≡ Some (Some i)
      → IsString names rules condition line i w
  pub least : (condition : ℕ) (line : Bool) (w : List ℕ) (i j : ℕ) → scanner.walk condition line w ≡ Some (Some i)
      → IsString names rules condition line j w → i ≤ j
  pub found : (condition : ℕ) (line : Bool) (w : List ℕ) (j : ℕ) → IsString names rules condition line j w
      → (i : ℕ) × (scanner.walk condition line w ≡ Some (Some i))
  pub same_cut : (i : ℕ) (r : Rule) → slice_get rules i ≡ Some r → scanner.cut i ≡ r.pattern.cut
  pub true_cuts : AreCut names rules
  pub with_bytes : HaveBytes names rules
