-- The rules by which states reduce.
use Rattle.std.specs.Prelude.{◌≡◌, ◌⊎◌, ◌++◌, ◌∷◌, [], ℕ, List, length, None, Some, Contains, nat_eq, slice_get, true}
use Rattle.std.specs.BTreeMap.{BTreeMap}
use Rattle.std.specs.BTreeMap as tree
use Rattle.std.specs.List.{list_any}
use Rattle.std.specs.Global.{Vec}
use Rattle.ly_base.specs.declared.numbers.RuleNo.{RuleNo}
use Rattle.ly_pack.specs.Machine.{IsRuleNumber, Machine, TableRule, action_of, goto_at, reduce, states_of}
use Rattle.ly_pack.specs.Steady.{rule_at}
use Rattle.ly_loop.specs.Private.Pairs.{pair_cmp}

-- The rules by which a state reduces.
pub record AreReducing (m : Machine) (state : ℕ) (row : List RuleNo) : Type 0 where
  pub rules : (r : RuleNo) → Contains row r → IsRuleNumber m r.0
  pub whole : (t p : ℕ) → action_of m state t ≡ reduce p → (r : RuleNo) × Contains row r × (r.0 ≡ p)

-- the rule has no symbols, and the state has no goto for its left side: a run ends there, whatever lies below
abbrev pub EndsAtOnce : Machine → ℕ → ℕ → Type 0
EndsAtOnce m state p = (r : TableRule) × (rule_at m p ≡ Some r) × (r.body_length ≡ 0) × (None ≡ goto_at m state r.left)

-- A rule says the same as another: it has that one's left side, and as many symbols.
pub record AreAlike (m : Machine) (p q : ℕ) : Type 0 where
  pub rule : TableRule
  pub other : TableRule
  pub is_rule : rule_at m p ≡ Some rule
  pub is_other : rule_at m q ≡ Some other
  pub left : rule.left ≡ other.left
  pub size : rule.body_length ≡ other.body_length

-- a rule of the row says the same
abbrev pub IsCovered : Machine → List RuleNo → ℕ → Type 0
IsCovered m row p = (r : RuleNo) × Contains row r × AreAlike m r.0 p

-- The rules by which a state reduces, but for some by which a run ends at once, and some that say the same as others.
pub record AreReductions (m : Machine) (state : ℕ) (row : List RuleNo) : Type 0 where
  pub rules : (r : RuleNo) → Contains row r → IsRuleNumber m r.0
  pub whole : (t p : ℕ) → action_of m state t ≡ reduce p
      → IsCovered m row p ⊎ EndsAtOnce m state p

-- what is looked up by left sides and sizes are rules of the row that have these
abbrev pub AreFirsts : Machine → BTreeMap (ℕ × ℕ) RuleNo → List RuleNo → Type 0
AreFirsts m firsts row = (left size : ℕ) (r : RuleNo) → tree.get pair_cmp firsts (left, size) ≡ Some r
    → Contains row r × ((x : TableRule) × (rule_at m r.0 ≡ Some x) × (x.left ≡ left) × (x.body_length ≡ size))

-- a rule is kept, or a run ends by it at once, or another that is kept says the same
abbrev pub IsKeptOn : Machine → ℕ → RuleNo → List RuleNo → List RuleNo → Type 0
IsKeptOn m state rule old new =
    (new ≡ old ++ rule ∷ []) ⊎ ((new ≡ old) × (EndsAtOnce m state rule.0 ⊎ IsCovered m old rule.0))

-- For each state the rules by which it reduces, but for some of these.
pub record AreAllReductions (m : Machine) (rows : List (Vec RuleNo)) : Type 0 where
  pub count : length rows ≡ states_of m
  pub each : (state : ℕ) (row : Vec RuleNo) → slice_get rows state ≡ Some row → AreReductions m state row.items

-- a rule of this number is in the row
abbrev pub IsIn : List RuleNo → ℕ → Type 0
IsIn row n = (r : RuleNo) × Contains row r × (r.0 ≡ n)

-- the rules that were seen are in the row
abbrev pub AreSeen : List ℕ → List RuleNo → Type 0
AreSeen seen row = (n : ℕ) → list_any (nat_eq n) seen ≡ true → IsIn row n

-- A rule is added to a row if it wasn't seen.
pub record IsNoted (rule : RuleNo) (old : List ℕ) (row : List RuleNo) (new : List ℕ) (row' : List RuleNo) : Type 0
  where
    pub kept : (r : RuleNo) → Contains row r → Contains row' r
    pub cases : (r : RuleNo) → Contains row' r → Contains row r ⊎ (rule ≡ r)
    pub seen : AreSeen old row → AreSeen new row'
    pub there : AreSeen old row → IsIn row' rule.0
