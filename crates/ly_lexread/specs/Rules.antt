-- The rules of a lex file.
use Rattle.std.specs.Prelude.{◌≡◌, ◌≢◌, ◌<◌, ◌≤◌, ◌⊎◌, ℕ, List, [], ◌∷◌, ◌++◌, drop, length, codes, Some}
use Rattle.ly_base.specs.Language.{NameBefore}
use Rattle.ly_base.specs.declared.language.Language.TheVariants.{Lex}
use Rattle.ly_ere.specs.Grammar.{Sides}
use Rattle.ly_ere.specs.Names.{Definition}
use Rattle.ly_ere.specs.Patterns.{HasFrontSides, IsFrontPattern, pattern_weight, sides_weight}
use Rattle.ly_ere.specs.declared.pattern.Rule.{Rule}
use Rattle.ly_ere.specs.Winner.{active_of}
use Rattle.ly_lexread.specs.Action.{Saying}
use Rattle.ly_lexread.specs.Conditions.{Condition, condition_of, inclusive}
use Rattle.ly_lexread.specs.Lines.{BlockEnds, LineBefore, LineOf, kind_of}
use Rattle.ly_lexread.specs.Statements.{SaysAction}
use Rattle.ly_lexread.specs.declared.kind.LineKind.{LineKind}
use Rattle.ly_lexread.specs.declared.kind.LineKind.TheVariants.{Mark, Unused, Block}

-- the text is the name of a condition, or `0`, then the rest
abbrev pub ConditionBefore : List Condition → List ℕ → ℕ → List ℕ → Type 0
ConditionBefore cs text n rest = ((s : List ℕ) × NameBefore Lex text s rest × (condition_of cs s ≡ Some n))
    ⊎ ((text ≡ codes "0" ++ rest) × (n ≡ 0))

-- Conditions separated by commas, up to the `>`: from the numbers so far to all of them, then the rest.
pub data Listed (cs : List Condition) : List ℕ → List ℕ → List ℕ → List ℕ → Type 0 where
  last : (ns text rest : List ℕ) (n : ℕ) → ConditionBefore cs text n (codes ">" ++ rest)
      → Listed cs ns text (ns ++ n ∷ []) rest
  more : (ns text behind all rest : List ℕ) (n : ℕ) → ConditionBefore cs text n (codes "," ++ behind)
      → Listed cs (ns ++ n ∷ []) behind all rest → Listed cs ns text all rest

-- The conditions in which a rule is active, and the rest of its line: those that `<..>` lists at the start, in this
-- order; for a rule without such a list the inclusive ones.
abbrev pub ActiveBefore : List Condition → List ℕ → List ℕ → List ℕ → Type 0
ActiveBefore cs line active rest = ((behind : List ℕ) × (line ≡ codes "<" ++ behind) × Listed cs [] behind active rest)
    ⊎ (((s : List ℕ) → line ≢ codes "<" ++ s) × (active ≡ inclusive cs) × (rest ≡ line))

-- a line of this kind begins a rule
abbrev pub BeginsRule : LineKind → Type 0
BeginsRule Mark = ⊥
BeginsRule Unused = ⊥
BeginsRule Block = ⊥
BeginsRule _ = Unit {0}

-- The text starts with a line that begins a rule: its conditions, then what follows them, then what ends the line.
pub record RuleLine (cs : List Condition) (text active body end : List ℕ) : Type 0 where
  pub line : List ℕ
  pub some : text ≢ []
  pub is_line : LineOf text line end
  pub begins : BeginsRule (kind_of line)
  pub is_active : ActiveBefore cs line active body

-- The text begins with a rule, then comes the rest.
pub record RuleBefore (cs : List Condition) (names : List Definition) (text : List ℕ) (rule : Rule) (saying : Saying)
    (rest : List ℕ) : Type 0 where
  pub body : List ℕ
  pub end : List ℕ
  pub line : RuleLine cs text (active_of rule) body end
  pub taken : ℕ
  pub is_pattern : IsFrontPattern names body rule.pattern taken
  pub says : SaysAction cs (drop taken body) end saying rest

-- an ignored line or block, then the rest
abbrev pub Skips : List ℕ → List ℕ → Type 0
Skips text rest = (line more : List ℕ) × LineBefore text line more
    × (((kind_of line ≡ Unused) × (rest ≡ more)) ⊎ ((kind_of line ≡ Block) × BlockEnds more rest))

-- no more rules follow: the text ends, or a `%%` comes
abbrev pub AreRulesOver : List ℕ → Type 0
AreRulesOver text = (text ≡ []) ⊎ ((line rest : List ℕ) × LineBefore text line rest × (kind_of line ≡ Mark))

-- the rules, the action of each as it is written, and the number of bytes left from its first byte on
pub data Rules (cs : List Condition) (names : List Definition) : List ℕ → List Rule → List Saying → List ℕ → Type 0
  where
    end : (text : List ℕ) → AreRulesOver text → Rules cs names text [] [] []
    skip : (text rest : List ℕ) (rules : List Rule) (sayings : List Saying) (lefts : List ℕ) → Skips text rest
        → Rules cs names rest rules sayings lefts → Rules cs names text rules sayings lefts
    rule : (text rest : List ℕ) (r : Rule) (s : Saying) (rules : List Rule) (sayings : List Saying) (lefts : List ℕ)
        → RuleBefore cs names text r s rest → Rules cs names rest rules sayings lefts
        → Rules cs names text (r ∷ rules) (s ∷ sayings) (length text ∷ lefts)

-- each pattern weighs at most this
abbrev pub AreLight : ℕ → List Definition → List Rule → Type 0
AreLight most names [] = Unit {0}
AreLight most names (r ∷ rules) = (pattern_weight names r.pattern ≤ most) × AreLight most names rules

-- The text begins with a rule whose line has sides of a pattern that weigh more than this.
pub record IsHeavyRule (most : ℕ) (cs : List Condition) (names : List Definition) (text : List ℕ) : Type 0 where
  pub active : List ℕ
  pub body : List ℕ
  pub end : List ℕ
  pub line : RuleLine cs text active body end
  pub sides : Sides
  pub taken : ℕ
  pub are_sides : HasFrontSides names body sides taken
  pub is_heavy : most < sides_weight names sides

-- one of the rules does so
pub data HasHeavyRule (most : ℕ) (cs : List Condition) (names : List Definition) : List ℕ → Type 0 where
  here : (text : List ℕ) → IsHeavyRule most cs names text → HasHeavyRule most cs names text
  skip : (text rest : List ℕ) → Skips text rest → HasHeavyRule most cs names rest → HasHeavyRule most cs names text
  rule : (text rest : List ℕ) (r : Rule) (s : Saying) → RuleBefore cs names text r s rest
      → HasHeavyRule most cs names rest → HasHeavyRule most cs names text
