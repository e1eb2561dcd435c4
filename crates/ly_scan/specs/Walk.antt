-- The longest prefix whose walk has a rule.
use Rattle.std.specs.Prelude.{◌≡◌, ◌<◌, ◌≤◌, ◌++◌, ℕ, List, [], Option, Some, None, MatchOption, is_some, take, true}
use Rattle.ly_base.specs.declared.numbers.RuleNo.{RuleNo}

-- the result of a walk for a text: None if it has ended, else the rule there, if there is one
abbrev pub Walk : Type 0
Walk = List ℕ → Option (Option ℕ)

-- among the prefixes of at most `bound` bytes, that of n bytes is the longest whose walk has a rule, and the rule is r
pub record IsLongest (walk : Walk) (text : List ℕ) (bound n r : ℕ) : Type 0 where
  pub some_byte : 1 ≤ n
  pub within : n ≤ bound
  pub has_rule : walk (take n text) ≡ Some (Some r)
  pub longest : (m s : ℕ) → n < m → m ≤ bound → walk (take m text) ≡ Some (Some s) → ⊥

-- no prefix of 1 to `bound` bytes has a rule
abbrev pub HasNone : Walk → List ℕ → ℕ → Type 0
HasNone walk text bound = (m s : ℕ) → 1 ≤ m → m ≤ bound → walk (take m text) ≡ Some (Some s) → ⊥

-- the result is the longest such prefix, or that there is none
abbrev pub IsBest : Walk → List ℕ → ℕ → Option (ℕ × RuleNo) → Type 0
IsBest walk text bound best = MatchOption best (HasNone walk text bound) (λ p. IsLongest walk text bound p.0 p.1.0)

-- the result after one more byte, whose walk has this rule or none
abbrev pub better_of : Option (ℕ × RuleNo) → ℕ → Option RuleNo → Option (ℕ × RuleNo)
better_of best n (Some r) = Some (n, r)
better_of best n None = best

-- a walk that has ended stays ended
abbrev pub StaysEnded : Walk → Type 0
StaysEnded walk = (text more : List ℕ) → walk text ≡ None → walk (text ++ more) ≡ None

-- a walk can begin here, and hasn't ended
pub record IsStart (stands : Type 0) (ahead : Walk) : Type 0 where
  pub there : stands
  pub alive : is_some (ahead []) ≡ true
  pub ends : StaysEnded ahead
