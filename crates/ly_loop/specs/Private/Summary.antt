-- What runs come to: how many reductions they make at most, and how they end.
use Rattle.std.specs.Prelude.{◌≡◌, ◌⊎◌, ℕ, ◌+◌, ◌<◌, ◌≤◌, List, [], ◌∷◌, ◌++◌, length, drop, Some}
use Rattle.ly_base.specs.declared.numbers.RuleNo.{RuleNo}
use Rattle.ly_pack.specs.Machine.{Machine, TableRule, action_of, reduce}
use Rattle.ly_pack.specs.Steady.{ReducesTo, RunEnd, action_on, ends, move, rule_at, run_bound}
use Rattle.ly_loop.specs.declared.summary.Ending.{Ending}
use Rattle.ly_loop.specs.declared.summary.Ending.TheVariants.{Over, Leaves, Mixed}
use Rattle.ly_loop.specs.declared.summary.Summary.{Summary}
use Rattle.ly_loop.specs.declared.tokens.Tokens.{Tokens}
use Rattle.ly_loop.specs.Private.Reductions.{AreAlike, IsCovered}
use Rattle.ly_loop.specs.Private.Tokens.{IsOn}

-- the run ends on this stack, whatever lies below it
abbrev pub IsOver : Machine → ℕ → List ℕ → Type 0
IsOver m t last = (e : RunEnd) × ((more : List ℕ) → move m t (last ++ more) ≡ ends e)

-- A reduction by a rule with this left side takes away the whole stack, and so many states below it.
pub record IsLeaving (m : Machine) (t : ℕ) (last : List ℕ) (rest left : ℕ) : Type 0 where
  pub number : ℕ
  pub rule : TableRule
  pub reduces : action_on m t last ≡ reduce number
  pub is_rule : rule_at m number ≡ Some rule
  pub left_side : rule.left ≡ left
  pub size : rule.body_length ≡ length last + rest

-- A reduction by a rule with this left side takes away what lies above a state, below which there are others.
pub record IsPopping (m : Machine) (t : ℕ) (stack : List ℕ) (under : ℕ) (below : List ℕ) (left : ℕ) : Type 0 where
  pub number : ℕ
  pub rule : TableRule
  pub reduces : action_on m t stack ≡ reduce number
  pub is_rule : rule_at m number ≡ Some rule
  pub left_side : rule.left ≡ left
  pub popped : drop rule.body_length stack ≡ under ∷ below

-- how a run ends on a stack
abbrev pub EndsSo : Machine → ℕ → List ℕ → Ending → Type 0
EndsSo m t last Over = IsOver m t last
EndsSo m t last (Leaves rest left) = IsOver m t last ⊎ IsLeaving m t last rest left.0
EndsSo m t last Mixed = (e : RunEnd) × (move m t last ≡ ends e)

-- The run from a stack comes to this.
pub record ComesTo (m : Machine) (t : ℕ) (stack : List ℕ) (o : Summary) : Type 0 where
  pub count : ℕ
  pub last : List ℕ
  pub leads : ReducesTo m t stack count last
  pub within : count ≤ o.most
  pub ending : EndsSo m t last o.ending

-- the left side of the reduction is there
abbrev pub IsLeft : Machine → Ending → Type 0
IsLeft m (Leaves rest left) = left.0 < m.nonterminals
IsLeft m _ = Unit {0}

-- It makes no more reductions than are allowed, and the left side that it names is there.
pub record IsAllowed (m : Machine) (o : Summary) : Type 0 where
  pub low : o.most ≤ run_bound
  pub left : IsLeft m o.ending

-- The runs of an edge come to this, on these terminals.
pub record IsSummary (m : Machine) (k : Tokens) (below top : ℕ) (o : Summary) : Type 0 where
  pub allowed : IsAllowed m o
  pub runs : (t : ℕ) → IsOn m k t → ComesTo m t (top ∷ below ∷ []) o

-- The runs of an edge that begin with a reduction by a rule, or one that says the same, come to this.
pub record IsSummaryBy (m : Machine) (k : Tokens) (below top rule : ℕ) (o : Summary) : Type 0 where
  pub allowed : IsAllowed m o
  pub runs : (t p : ℕ) → IsOn m k t → AreAlike m rule p → action_of m top t ≡ reduce p
      → ComesTo m t (top ∷ below ∷ []) o

-- The runs of an edge that begin with a reduction by one of some rules, or one that says the same, come to this.
pub record IsSummaryByAll (m : Machine) (k : Tokens) (below top : ℕ) (rules : List RuleNo) (o : Summary) : Type 0 where
  pub allowed : IsAllowed m o
  pub runs : (t p : ℕ) → IsOn m k t → IsCovered m rules p → action_of m top t ≡ reduce p
      → ComesTo m t (top ∷ below ∷ []) o

-- The runs come to this from where a reduction takes away all that lies above a state, with others below it.
pub record IsGone (m : Machine) (k : Tokens) (under : ℕ) (below : List ℕ) (left : ℕ) (o : Summary) : Type 0 where
  pub allowed : IsAllowed m o
  pub runs : (t : ℕ) (stack : List ℕ) → IsOn m k t → IsPopping m t stack under below left → ComesTo m t stack o

-- Above one state more, what comes to a summary comes to this.
pub record IsBehind (m : Machine) (k : Tokens) (below : ℕ) (inner o : Summary) : Type 0 where
  pub allowed : IsAllowed m o
  pub runs : (t : ℕ) (stack : List ℕ) → IsOn m k t → ComesTo m t stack inner
      → ComesTo m t (stack ++ below ∷ []) o

-- what ends in one of both ways, ends in the other as well
abbrev pub IsWider : Ending → Ending → Type 0
IsWider e f = (m : Machine) (t : ℕ) (last : List ℕ) → EndsSo m t last e → EndsSo m t last f

-- it is one of both, or mixed
abbrev pub IsOneOf : Ending → Ending → Ending → Type 0
IsOneOf one other e = (e ≡ one) ⊎ (e ≡ other) ⊎ (e ≡ Mixed)

-- What comes to one, comes to the other.
pub record IsJoined (m : Machine) (one other joined : Summary) : Type 0 where
  pub allowed : IsAllowed m one → IsAllowed m other → IsAllowed m joined
  pub first : (t : ℕ) (stack : List ℕ) → ComesTo m t stack one → ComesTo m t stack joined
  pub second : (t : ℕ) (stack : List ℕ) → ComesTo m t stack other → ComesTo m t stack joined
