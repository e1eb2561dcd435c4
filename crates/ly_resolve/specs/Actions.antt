-- The action of a parser after a string of symbols, before a terminal (POSIX, XCU yacc, "Conflicts"; Aho, Johnson and
-- Ullman 1975).
use Rattle.std.specs.Prelude.{◌≡◌, ◌≢◌, ◌⊎◌, ℕ, ◌≤◌, List}
use Rattle.ly_join.specs.Grammar.{Grammar, Symbol, terminal}
use Rattle.ly_grammar.specs.Items.{InLookahead, IsNextSymbol, IsViable}

-- An action of a parser before a terminal: shift it, reduce by a rule, or reject it because it is nonassociative.
pub data Action : Type 0 where
  shift : Action
  reduce : ℕ → Action
  error : Action

-- An item of the string's core makes the action possible before the terminal (a raw action, before precedence is
-- consulted). The end is shifted too; that is accepting.
abbrev pub IsRaw : Grammar → List Symbol → ℕ → Action → Type 0
IsRaw G g t shift = IsNextSymbol G g (terminal t)
IsRaw G g t (reduce p) = (1 ≤ p) × InLookahead G g p t
IsRaw G g t error = ⊥

-- at most one action is possible before a terminal
abbrev pub IsConflictFree : Grammar → Type 0
IsConflictFree G = (g : List Symbol) (t : ℕ) (a b : Action) → IsViable G g → IsRaw G g t a → IsRaw G g t b → a ≡ b

-- The verdict of precedence on a shift against a reduction: the shift, the reduction, neither, or no verdict.
pub data PrecedenceVerdict : Type 0 where
  to_shift : PrecedenceVerdict
  to_reduce : PrecedenceVerdict
  to_error : PrecedenceVerdict
  unsettled : PrecedenceVerdict

-- for each rule and terminal, the verdict of precedence
abbrev pub Judge : Type 0
Judge = ℕ → ℕ → PrecedenceVerdict

-- The chosen action, given the possible actions and the verdict of precedence on each rule.
module _ (IsAsked : Action → Type 0) (verdict : ℕ → PrecedenceVerdict) where
  -- the reduction stays: precedence prefers it, or no shift is possible
  abbrev pub Stays : ℕ → Type 0
  Stays p = IsAsked (reduce p) × (IsAsked shift → verdict p ≡ to_reduce)

  -- the reduction leaves the shift: precedence prefers the shift, or has no verdict
  abbrev pub LeavesShift : ℕ → Type 0
  LeavesShift p = (verdict p ≡ to_shift) ⊎ (verdict p ≡ unsettled)

  -- Each reduction is judged by itself. The shift is chosen if all leave it; else the earliest of the reductions that
  -- stay; and an error if the shift is overruled and no reduction stays.
  abbrev pub IsDone : Action → Type 0
  IsDone shift = IsAsked shift × ((p : ℕ) → IsAsked (reduce p) → LeavesShift p)
  IsDone (reduce p) = Stays p × ((q : ℕ) → Stays q → p ≤ q)
  IsDone error = IsAsked shift × ((p : ℕ) → IsAsked (reduce p) → verdict p ≢ to_reduce)
      × (p : ℕ) × IsAsked (reduce p) × (verdict p ≡ to_error)

-- the action at a string before a terminal
abbrev pub IsAction : Grammar → Judge → List Symbol → ℕ → Action → Type 0
IsAction G judge g t = IsDone (IsRaw G g t) (λ p. judge p t)

-- no action is possible at the string before the terminal
abbrev pub IsTerminalRefused : Grammar → List Symbol → ℕ → Type 0
IsTerminalRefused G g t = (a : Action) → IsRaw G g t a → ⊥
