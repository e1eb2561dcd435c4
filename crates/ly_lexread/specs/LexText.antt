-- The meaning of a lex file (POSIX, XCU lex).
use Rattle.std.specs.Prelude.{◌≡◌, ◌≢◌, ◌⊎◌, ◌-◌, ℕ, List, [], ◌∷◌, Option, Some, None, Result}
use Rattle.std.specs.Prelude.{IfErr, IfOk, drop, length, map, slice_get, if◌then◌else◌, nat_eq}
use Rattle.ly_ere.specs.Definitions.{AreLightNames}
use Rattle.ly_ere.specs.Names.{Definition}
use Rattle.ly_ere.specs.declared.pattern.Rule.{Rule}
use Rattle.ly_ere.specs.Winner.{active_of}
use Rattle.ly_lexread.specs.declared.action.LexAction.{LexAction}
use Rattle.ly_lexread.specs.declared.file.LexFile.{LexFile}
use Rattle.ly_lexread.specs.declared.file.StartCondition.{StartCondition}
use Rattle.ly_lexread.specs.declared.fault.LexFault.{LexFault}
use Rattle.ly_lexread.specs.declared.fault.LexFault.TheVariants.{OutOfMemory}
use Rattle.ly_lexread.specs.Action.{AreEffects, Saying, effect_of, meaning_of}
use Rattle.ly_lexread.specs.Conditions.{Condition}
use Rattle.ly_lexread.specs.Definitions.{at_first, DefinedLine, DefinesName, Definitions, Preamble}
use Rattle.ly_lexread.specs.Faults.{IsTooHeavy}
use Rattle.ly_lexread.specs.Names.{AreDefinitions, HasHeavyDefinition}
use Rattle.ly_lexread.specs.Lines.{BeginsWith, LineOf}
use Rattle.ly_lexread.specs.Rules.{AreLight, HasHeavyRule, RuleBefore, Rules}

-- the name of a condition, and its offset where it is declared
abbrev pub said_of : StartCondition → List ℕ × Option ℕ
said_of c = (c.name.items, c.offset)

-- the offset of a name from which so many of the file's bytes are left; none if no bytes are left
abbrev pub declared_at : ℕ → ℕ → Option ℕ
declared_at whole left = if nat_eq left 0 then None else Some (whole - left)

-- the names and offsets of the conditions in a file of this length
abbrev pub conditions_in : ℕ → List Condition → List (List ℕ × Option ℕ)
conditions_in whole cs = map (λ c. (c.0, declared_at whole c.1.1)) cs

-- The bytes are a lex file with this value. An offset is the length of the file without the bytes left from there on.
pub record LexText (bytes : List ℕ) (file : LexFile) : Type 0 where
  pub all : Preamble
  pub behind : List ℕ
  pub definitions : Definitions at_first bytes all behind
  pub names : AreDefinitions all.definitions file.names
  pub sayings : List Saying
  pub lefts : List ℕ
  pub rules : Rules all.conditions file.names behind file.rules.items sayings lefts
  pub effects : AreEffects sayings (map effect_of file.actions.items)
  pub conditions : file.conditions ≡ length all.conditions
  pub start_conditions : map said_of file.start_conditions.items ≡ conditions_in (length bytes) all.conditions
  pub rule_starts : file.rule_starts.items ≡ map (λ n. length bytes - n) lefts
  pub definition_starts : file.definition_starts.items ≡ map (λ d. length bytes - d.1.1) all.definitions

-- a definition weighs more than this, or, with the definitions, the head and the tail of a rule do
abbrev pub IsHeavyBehind : ℕ → Preamble → List ℕ → Type 0
IsHeavyBehind most all behind = HasHeavyDefinition most all.definitions
    ⊎ ((names : List Definition) × AreDefinitions all.definitions names × HasHeavyRule most all.conditions names behind)

-- the same of a file whose definitions are well formed
abbrev pub IsHeavyText : ℕ → List ℕ → Type 0
IsHeavyText most bytes
    = (all : Preamble) × (behind : List ℕ) × Definitions at_first bytes all behind × IsHeavyBehind most all behind

-- each definition and each pattern of the file weighs at most this
abbrev pub IsLight : ℕ → LexFile → Type 0
IsLight most file = AreLightNames most file.names × AreLight most file.names file.rules.items

-- The contract of a reader. value is what it found, whatever the capacity; Is gives the values that the text has, Light
-- those that are light enough, and Heavy holds if a part of the text is too heavy. If a text is rejected for anything
-- but weight or memory, it has no value, whatever its weight.
pub record IsReadAs {T X : Type 0} (value : T → X) (Is Light : X → Type 0) (Heavy : Type 0)
    (result : Result T LexFault) : Type 0 where
  pub ok : IfOk result (λ found. Is (value found))
  pub light : IfOk result (λ found. Light (value found))
  pub refused : IfErr result (λ fault. fault ≢ OutOfMemory → (IsTooHeavy fault → ⊥) → (x : X) → Is x → ⊥)
  pub heavy : IfErr result (λ fault. IsTooHeavy fault → Heavy)
  pub none_light : IfErr result (λ fault. IsTooHeavy fault → (x : X) → Is x → Light x → ⊥)

-- the contract of the reader of a lex file, with a limit on the weight of a pattern
abbrev pub IsRead : ℕ → List ℕ → Result LexFile LexFault → Type 0
IsRead most bytes result = IsReadAs (λ file. file) (LexText bytes) (IsLight most) (IsHeavyText most bytes) result

-- equal rules, whatever the capacity of their lists
abbrev pub AreSameRules : List Rule → List Rule → Type 0
AreSameRules [] [] = Unit {0}
AreSameRules (r ∷ rs) (s ∷ ss) = (r.pattern ≡ s.pattern) × (active_of r ≡ active_of s) × AreSameRules rs ss
AreSameRules _ _ = ⊥

-- equal actions
abbrev pub AreSameActions : List LexAction → List LexAction → Type 0
AreSameActions [] [] = Unit {0}
AreSameActions (a ∷ as') (b ∷ bs) = (a.begin ≡ b.begin) × (meaning_of a.returns ≡ meaning_of b.returns)
    × AreSameActions as' bs
AreSameActions _ _ = ⊥

-- Equal files.
pub record AreSame (f g : LexFile) : Type 0 where
  pub names : f.names ≡ g.names
  pub rules : AreSameRules f.rules.items g.rules.items
  pub actions : AreSameActions f.actions.items g.actions.items
  pub conditions : f.conditions ≡ g.conditions
  pub start_conditions : map said_of f.start_conditions.items ≡ map said_of g.start_conditions.items
  pub rule_starts : f.rule_starts.items ≡ g.rule_starts.items
  pub definition_starts : f.definition_starts.items ≡ g.definition_starts.items

-- a text has one value
abbrev pub LexTextIsOne : Type 0
LexTextIsOne = (bytes : List ℕ) (f g : LexFile) → LexText bytes f → LexText bytes g → AreSame f g

-- a text begins with the rule
abbrev pub RuleStands : List Condition → List Definition → List ℕ → Rule → Type 0
RuleStands cs names text r = (s : Saying) × (rest : List ℕ) × RuleBefore cs names text r s rest

-- a text begins with the line of this definition
abbrev pub DefinitionStands : List ℕ → DefinedLine → Type 0
DefinitionStands text d = (line end : List ℕ) × LineOf text line end × DefinesName line d.0 d.1.0

-- each rule begins at its offset in the file
abbrev pub RulesBegin : Type 0
RulesBegin = (bytes : List ℕ) (file : LexFile) (text : LexText bytes file) (i n : ℕ) (r : Rule)
    → slice_get file.rule_starts.items i ≡ Some n → slice_get file.rules.items i ≡ Some r
    → RuleStands text.all.conditions file.names (drop n bytes) r

-- each line that defines a name begins at its offset in the file
abbrev pub DefinitionsBegin : Type 0
DefinitionsBegin = (bytes : List ℕ) (file : LexFile) (text : LexText bytes file) (i n : ℕ) (d : DefinedLine)
    → slice_get file.definition_starts.items i ≡ Some n → slice_get text.all.definitions i ≡ Some d
    → DefinitionStands (drop n bytes) d

-- the name of each declared condition begins at its offset in the file
abbrev pub ConditionsBegin : Type 0
ConditionsBegin = (bytes : List ℕ) (file : LexFile) → LexText bytes file → (i : ℕ) (c : StartCondition) (n : ℕ)
    → slice_get file.start_conditions.items i ≡ Some c → c.offset ≡ Some n → BeginsWith (drop n bytes) c.name.items
