-- A match whose bytes arrive in chunks.
use Rattle.std.specs.Prelude.{◌≡◌, ◌≢◌, ◌++◌, ℕ, List, [], Option, Some, None, length, is_some, true}
use Rattle.ly_base.specs.declared.cut.Cut.{Cut}
use Rattle.ly_base.specs.declared.numbers.RuleNo.{RuleNo}
use Rattle.ly_scan.specs.Matching.{IsMatch}
use Rattle.ly_scan.specs.Walk.{Walk, IsBest}
use Rattle.ly_scan.specs.declared.matching.Match.{Match}

-- A match in progress: the state of its walk, if it can begin; the number of bytes so far; and the longest prefix that
-- has a rule, with the rule.
pub record Underway (P : Type 0) : Type 0 where
  pub at : Option P
  pub passed : ℕ
  pub best : Option (ℕ × RuleNo)

-- a walk has read some bytes and is in this state; if it can't begin, it has read none
abbrev pub StandsBehind : {P : Type 0} → Walk → (P → Walk) → (P → Type 0) → List ℕ → Option P → Type 0
StandsBehind walk ahead stands seen (Some at) = stands at × ((text : List ℕ) → ahead at text ≡ walk (seen ++ text))
    × (is_some (walk seen) ≡ true)
StandsBehind walk ahead stands seen None = (seen ≡ []) × (walk [] ≡ None)

-- A match is undecided: its walk has read all bytes so far, and the longest prefix that has a rule is known.
pub record IsUnderway {P : Type 0} (walk : Walk) (ahead : P → Walk) (stands : P → Type 0) (seen : List ℕ)
    (u : Underway P) : Type 0 where
  pub there : StandsBehind walk ahead stands seen u.at
  pub passed : u.passed ≡ length seen
  pub best : IsBest walk seen (length seen) u.best

-- A match is decided by the bytes so far, whatever bytes follow: its walk has ended.
pub record IsDecidedMatch (walk : Walk) (cut : ℕ → Cut) (seen : List ℕ) (m : Match) : Type 0 where
  pub some : seen ≢ []
  pub ended : walk seen ≡ None
  pub is : (more : List ℕ) → IsMatch walk cut (seen ++ more) m
