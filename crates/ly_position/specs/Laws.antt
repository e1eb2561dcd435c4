-- Laws of expanded expressions, of their paths, and of automata that have the positions of rules.
use Rattle.std.specs.Prelude.{◌≡◌, ◌↔◌, ℕ, ◌<◌, ◌≤◌, List, [], ◌∷◌, ◌++◌, length, Bool, Contains, None, IfSome}
use Rattle.ly_ere.specs.Expression.{Expression, set, plus, Matches}
use Rattle.ly_ere.specs.Lengths.{AreSound, IsSound}
use Rattle.ly_ere.specs.Winner.{IsString}
use Rattle.ly_ere.specs.declared.pattern.Pattern.{Pattern}
use Rattle.ly_ere.specs.declared.pattern.Rule.{Rule}
use Rattle.ly_position.specs.Nfa.{Nfa, ComesTo, RunsTo, starts_of}
use Rattle.ly_position.specs.Numbered.{numbered, set_count, IsFull, IsPosition, IsReadAlong, Path}
use Rattle.ly_position.specs.Patterns.{RunsFrom}
use Rattle.ly_position.specs.Spots.{ArePositionsOf, HasPositions, IsNext, Spot}
use Rattle.ly_position.specs.Written.{Plain, Member, pattern_written, written}

-- an expanded expression matches the same strings
abbrev pub WrittenMatches : Type 0
WrittenMatches = (names : List Expression) (e : Expression) (w : List ℕ)
    → Matches names e w ↔ Member (written names e) w

-- an expression matches a string if and only if the string is read along numbers of the expression's sets
abbrev pub ReadsAlong : Type 0
ReadsAlong = (r : Plain) (w : List ℕ) → Member r w ↔ ((js : List ℕ) × Member (numbered r 0) js × IsReadAlong r js w)

-- two paths through the same position can be recombined there
abbrev pub PathsChangeOver : Type 0
PathsChangeOver = (r : Plain) (k : ℕ) (us vs xs ys : List ℕ) → Path r (us ++ k ∷ vs) → Path r (xs ++ k ∷ ys)
    → Path r (us ++ k ∷ ys)

-- if every set has a byte, the positions are the numbers of all sets and of the end mark
abbrev pub AllArePositions : Type 0
AllArePositions = (r : Plain) (k : ℕ) → IsFull r → IsPosition r k ↔ (k ≤ set_count r)

-- The same holds for a pattern whose sets have bytes, whose names have definitions of this kind, and whose intervals
-- have an upper bound of at least the lower one.
abbrev pub SoundHasAll : Type 0
SoundHasAll = (names : List Expression) (p : Pattern) (k : ℕ) → AreSound names → IsSound (length names) p.head
    → IfSome p.tail (IsSound (length names))
    → IsPosition (pattern_written names p) k ↔ (k ≤ set_count (pattern_written names p))

-- A rule `a+` has two positions, one that reads and the end mark. So an automaton with one more, as `aa*` has, doesn't
-- have the positions of `a+`.
abbrev pub SomeHasTwoPositions : Type 0
SomeHasTwoPositions = (names : List Expression) (r : Rule) (conditions : ℕ) (nfa : Nfa)
    → r.pattern.head ≡ plus (set (97 ∷ [])) → r.pattern.tail ≡ None → HasPositions names (r ∷ []) conditions nfa
    → length nfa.positions ≡ 2

-- the runs of an automaton with the positions of rules read exactly their strings
abbrev pub PositionsSpell : Type 0
PositionsSpell = (names : List Expression) (rules : List Rule) (conditions : ℕ) (nfa : Nfa)
    → HasPositions names rules conditions nfa → (c : ℕ) (line : Bool) (i : ℕ) (w : List ℕ) → c < conditions
    → RunsFrom nfa c line i w ↔ IsString names rules c line i w

-- In such an automaton the runs over a string reach exactly the positions that can come next after it.
abbrev pub PositionsComeNext : Type 0
PositionsComeNext = (names : List Expression) (rules : List Rule) (conditions : ℕ) (nfa : Nfa) (spot : ℕ → Spot)
    → ArePositionsOf names rules conditions nfa spot → (c : ℕ) (line : Bool) (w : List ℕ) (q : ℕ) → c < conditions
    → q < length nfa.positions
    → ((p : ℕ) × Contains (starts_of nfa c line) p × ComesTo nfa p w q) ↔ IsNext names rules c line w (spot q)

-- each of its positions leads to an end mark
abbrev pub PositionsLive : Type 0
PositionsLive = (names : List Expression) (rules : List Rule) (conditions : ℕ) (nfa : Nfa)
    → HasPositions names rules conditions nfa → (p : ℕ) → p < length nfa.positions
    → (i : ℕ) × (w : List ℕ) × RunsTo nfa i p w

-- any two such automata of the same rules have the same number of positions
abbrev pub PositionsAreAsMany : Type 0
PositionsAreAsMany = (names : List Expression) (rules : List Rule) (c d : ℕ) (nfa other : Nfa)
    → HasPositions names rules c nfa → HasPositions names rules d other
    → length nfa.positions ≡ length other.positions
