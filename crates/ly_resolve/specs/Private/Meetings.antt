-- Where a shift may be asked for, and reductions by some rules.
use Rattle.std.specs.Prelude.{◌↔◌, ◌⊎◌, ℕ, ◌<◌, ◌≤◌, List, ◌++◌, Bool, true, false, not, ◌&&◌, ◌||◌, nat_eq, map}
use Rattle.std.specs.Prelude.{length, AllPairs, Contains, IsTrue}
use Rattle.std.specs.List.{filter}
use Rattle.ly_join.specs.Grammar.{Grammar, Symbol}
use Rattle.ly_resolve.specs.Actions.{Action, PrecedenceVerdict, IsRaw, error, reduce, shift, to_reduce, unsettled}
use Rattle.ly_resolve.specs.Conflicts.{Conflict, Kind, reduce_reduce, shift_reduce}

-- the action is asked for
abbrev pub IsAskedBy : Bool → List ℕ → Action → Type 0
IsAskedBy s rs shift = IsTrue s
IsAskedBy s rs (reduce p) = Contains rs p
IsAskedBy s rs error = ⊥

-- two actions are asked for
abbrev pub AreMany : Bool → List ℕ → Type 0
AreMany s rs = (2 ≤ length rs) ⊎ (IsTrue s × (1 ≤ length rs))

-- These are the actions that are asked for at a string before a terminal; the rules rise.
pub record AreAsked (G : Grammar) (g : List Symbol) (t : ℕ) (s : Bool) (rs : List ℕ) : Type 0 where
  pub shift : IsTrue s ↔ IsRaw G g t shift
  pub reductions : (p : ℕ) → Contains rs p ↔ IsRaw G g t (reduce p)
  pub rising : AllPairs (λ p q. p < q) rs

-- precedence says nothing
abbrev pub is_unsettled : PrecedenceVerdict → Bool
is_unsettled unsettled = true
is_unsettled _ = false

-- precedence is for the reduction
abbrev pub is_for_reduction : PrecedenceVerdict → Bool
is_for_reduction to_reduce = true
is_for_reduction _ = false

-- a reduction by the rule is what is done
abbrev pub reduces_by : Action → ℕ → Bool
reduces_by (reduce q) p = nat_eq q p
reduces_by _ p = false

-- whether a rule is counted against what is done: precedence says nothing of it and the shift, or it stays and isn't
-- what is chosen
abbrev pub is_counted : Bool → (ℕ → PrecedenceVerdict) → Action → Kind → ℕ → Bool
is_counted s verdict choice shift_reduce p = s && is_unsettled (verdict p)
is_counted s verdict choice reduce_reduce p = not (reduces_by choice p) && (not s || is_for_reduction (verdict p))

-- the conflicts of a kind
abbrev pub told : List Symbol → ℕ → Bool → List ℕ → (ℕ → PrecedenceVerdict) → Action → Kind → List Conflict
told g t s rs verdict choice kind = map
    (λ p. record { prefix = g; terminal = t; kind = kind; rule = p; choice = choice })
    (filter (is_counted s verdict choice kind) rs)

-- the conflicts, by kinds
abbrev pub all_told : List Symbol → ℕ → Bool → List ℕ → (ℕ → PrecedenceVerdict) → Action → List Conflict
all_told g t s rs verdict choice = told g t s rs verdict choice shift_reduce
    ++ told g t s rs verdict choice reduce_reduce
