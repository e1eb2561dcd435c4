-- Candidates and winners: which rule matches at an offset of a text (POSIX, lex, "Regular Expressions in lex").
use Rattle.std.specs.Prelude.{◌≡◌, ℕ, ◌-◌, ◌≤◌, List, [], ◌++◌, length, take, drop, slice_get, Bool, IsTrue, Contains}
use Rattle.std.specs.Prelude.{Option, Some, None}
use Rattle.std.specs.Rc.{rc_slice_items}
use Rattle.ly_base.specs.declared.cut.Cut.{Cut}
use Rattle.ly_base.specs.declared.cut.Cut.TheVariants.{Whole, Head, Tail}
use Rattle.ly_ere.specs.Expression.{Expression, Matches}
use Rattle.ly_ere.specs.declared.pattern.Pattern.{Pattern}
use Rattle.ly_ere.specs.declared.pattern.Rule.{Rule}

-- The tail matches the bytes after the token. Without a tail there are none.
abbrev pub InTail : List Expression → Option Expression → List ℕ → Type 0
InTail names None w = w ≡ []
InTail names (Some t) w = Matches names t w

-- all strings of an expression have this length
abbrev pub HasLength : List Expression → Expression → ℕ → Type 0
HasLength names r n = (w : List ℕ) → Matches names r w → length w ≡ n

-- the cut of a head and a tail is right
abbrev pub CutHolds : List Expression → Expression → Option Expression → Cut → Type 0
CutHolds names h None Whole = Unit {0}
CutHolds names h None (Head n) = ⊥
CutHolds names h None (Tail n) = ⊥
CutHolds names h (Some t) Whole = ⊥
CutHolds names h (Some t) (Head n) = HasLength names h n
CutHolds names h (Some t) (Tail n) = HasLength names t n

-- the cut of a pattern is right
abbrev pub IsCut : List Expression → Pattern → Type 0
IsCut names p = CutHolds names p.head p.tail p.cut

-- each pattern's cut is right
abbrev pub AreCut : List Expression → List Rule → Type 0
AreCut names rules = (i : ℕ) (r : Rule) → slice_get rules i ≡ Some r → IsCut names r.pattern

-- The first n bytes of rest are m bytes that the head matches, at least one, then bytes that the tail matches.
pub record FitsPattern (names : List Expression) (p : Pattern) (rest : List ℕ) (n m : ℕ) : Type 0 where
  pub some_byte : 1 ≤ m
  pub token_within : m ≤ n
  pub within : n ≤ length rest
  pub in_head : Matches names p.head (take m rest)
  pub in_tail : InTail names p.tail (take (n - m) (drop m rest))

-- w is a string that the head matches, then one that the tail matches
abbrev pub PatternMatches : List Expression → Pattern → List ℕ → Type 0
PatternMatches names p w = (u : List ℕ) × (v : List ℕ) × (w ≡ u ++ v) × Matches names p.head u × InTail names p.tail v

-- the numbers of the conditions in which a rule is active, whatever the capacity of their list
abbrev pub active_of : Rule → List ℕ
active_of rule = rc_slice_items rule.active

-- Rule i is this one, it is active in the condition, and if it needs the start of a line, it is at one.
pub record IsActive (rules : List Rule) (condition : ℕ) (line : Bool) (i : ℕ) (rule : Rule) : Type 0 where
  pub is_rule : slice_get rules i ≡ Some rule
  pub in_condition : Contains (active_of rule) condition
  pub at_line : IsTrue rule.pattern.line_start → IsTrue line

-- rule i, active here, matches w
pub record IsString (names : List Expression) (rules : List Rule) (condition : ℕ) (line : Bool) (i : ℕ) (w : List ℕ)
    : Type 0 where
  pub rule : Rule
  pub is_active : IsActive rules condition line i rule
  pub spelled : PatternMatches names rule.pattern w

-- Rule i matches n bytes, and the first m of them are its token.
pub record Candidate (names : List Expression) (rules : List Rule) (condition : ℕ) (line : Bool) (rest : List ℕ)
    (i n m : ℕ) : Type 0 where
  pub rule : Rule
  pub is_active : IsActive rules condition line i rule
  pub fits : FitsPattern names rule.pattern rest n m

-- The longest match, and the first rule among those of this length.
pub record Winner (names : List Expression) (rules : List Rule) (condition : ℕ) (line : Bool) (rest : List ℕ)
    (i n m : ℕ) : Type 0 where
  pub is_candidate : Candidate names rules condition line rest i n m
  pub longest : (j k l : ℕ) → Candidate names rules condition line rest j k l → k ≤ n
  pub first : (j l : ℕ) → Candidate names rules condition line rest j n l → i ≤ j

-- no rule matches here
abbrev pub HasNoWinner : List Expression → List Rule → ℕ → Bool → List ℕ → Type 0
HasNoWinner names rules condition line rest = (i n m : ℕ) → Candidate names rules condition line rest i n m → ⊥
