-- Where every text ends cleanly.
use Rattle.std.specs.Prelude.{◌≡◌, ◌<◌, ℕ, [], ◌∷◌, List, Bool, Some}
use Rattle.ly_lexread.specs.declared.action.LexAction.{LexAction}
use Rattle.ly_scan.specs.Lexer.{Scanner}
use Rattle.ly_tokens.specs.Printing.{condition_set}

-- a byte alone has a rule in a condition, at the start of a line or not
abbrev pub HasRule : Scanner → ℕ → Bool → ℕ → Type 0
HasRule s condition line b = (r : ℕ) × (s.walk condition line (b ∷ []) ≡ Some (Some r))

-- each byte alone has a rule, in each of so many conditions
abbrev pub BeginsEverywhere : Scanner → ℕ → Type 0
BeginsEverywhere s conditions = (condition b : ℕ) (line : Bool) → condition < conditions → b < 256
    → HasRule s condition line b

-- the actions set conditions below a number
abbrev pub AreSetBelow : List LexAction → ℕ → Type 0
AreSetBelow actions conditions = (i c : ℕ) → condition_set actions i ≡ Some c → c < conditions
