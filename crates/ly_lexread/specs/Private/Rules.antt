-- The lines of rules, as they are read.
use Rattle.std.specs.Prelude.{◌≡◌, ◌≢◌, ◌-◌, ℕ, List, [], map}
use Rattle.ly_lexread.specs.Lines.{LineOf, kind_of}
use Rattle.ly_ere.specs.Names.{Definition}
use Rattle.ly_ere.specs.declared.pattern.Rule.{Rule}
use Rattle.ly_lexread.specs.Action.{Saying}
use Rattle.ly_lexread.specs.Conditions.{Condition}
use Rattle.ly_lexread.specs.Rules.{BeginsRule, Rules, Skips}

-- lines and blocks that aren't used, and then the rest
pub data AreSkipped : List ℕ → List ℕ → Type 0 where
  none : (text : List ℕ) → AreSkipped text text
  more : (text behind rest : List ℕ) → Skips text behind → AreSkipped behind rest → AreSkipped text rest

-- a line that begins a rule comes first
abbrev pub BeginsWithRule : List ℕ → Type 0
BeginsWithRule text = (text ≢ []) × (line end : List ℕ) × LineOf text line end × BeginsRule (kind_of line)

-- the rules, what each says of its action, and which byte of a file of so many, of which the text is what is left, is
-- the first of each
abbrev pub AreRulesAt : ℕ → List Condition → List Definition → List ℕ → List Rule → List Saying → List ℕ → Type 0
AreRulesAt whole cs names text rules sayings starts =
    (lefts : List ℕ) × Rules cs names text rules sayings lefts × (starts ≡ map (λ n. whole - n) lefts)
