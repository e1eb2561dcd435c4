-- What begins the strings of nonterminals, by rules.
use Rattle.std.specs.Prelude.{◌≡◌, ◌↔◌, ◌⊎◌, ◌<◌, ℕ, List, [], ◌∷◌, Bool, if◌then◌else◌, false, Contains, length, map}
use Rattle.std.specs.Prelude.{All}
use Rattle.ly_join.specs.Grammar.{Grammar, GrammarRule, IsRule, Symbol, terminal, nonterminal}
use Rattle.ly_sets.specs.NumberSet.{Member}
use Rattle.ly_sets.specs.SetMatrix.{Matrix, row}
use Rattle.ly_grammar.specs.Private.Reach.{uses}
use Rattle.ly_grammar.specs.Private.Search.{passes}

-- the symbols of a body up to the first that isn't a marked nonterminal
abbrev pub opening : List Bool → List Symbol → List Symbol
opening marks [] = []
opening marks (X ∷ w) = X ∷ (if passes marks false X then opening marks w else [])

-- an edge the other way round
abbrev pub turned : ℕ × ℕ → ℕ × ℕ
turned e = (e.1, e.0)

-- from a left side to each nonterminal of a string
abbrev pub parts : ℕ → List Symbol → List (ℕ × ℕ)
parts left w = map turned (uses left w)

-- a string of the nonterminal may begin with the terminal: the opening of a rule's body has it, or has a nonterminal of
-- which that is true
pub data Starts (G : Grammar) (marks : List Bool) : ℕ → ℕ → Type 0 where
  at_once : (p : ℕ) (r : GrammarRule) (t : ℕ) → IsRule G p r → Contains (opening marks r.body) (terminal t)
      → Starts G marks r.left t
  by_part : (p : ℕ) (r : GrammarRule) (A t : ℕ) → IsRule G p r → Contains (opening marks r.body) (nonterminal A)
      → Starts G marks A t → Starts G marks r.left t

-- The terminals of a string were added to a row.
pub record AreAdded (old new : Matrix) (left : ℕ) (w : List Symbol) : Type 0 where
  pub width : new.width ≡ old.width
  pub rows : length new.sets ≡ length old.sets
  pub exact : (j t : ℕ) → Member (row new.sets j) t
      ↔ (Member (row old.sets j) t ⊎ ((j ≡ left) × Contains w (terminal t)))

-- a terminal below the width, or a nonterminal among the first n
abbrev pub HasPlace : ℕ → ℕ → Symbol → Type 0
HasPlace width n (terminal t) = t < width
HasPlace width n (nonterminal A) = A < n

-- The symbols of a rule have places.
pub record RuleHasPlaces (width n : ℕ) (r : GrammarRule) : Type 0 where
  pub left : r.left < n
  pub body : All (HasPlace width n) r.body
